pub mod Behind
pub mod Bit
pub mod Counting
pub mod Scanned
