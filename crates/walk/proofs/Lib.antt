pub mod Scans
pub mod Tabled
