pub mod AsciiUnits
pub mod NameUnits
pub mod PutUnits
pub mod ShortUnits
pub mod WideUnits
