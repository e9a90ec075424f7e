pub mod KindNumbers
pub mod RowMade
