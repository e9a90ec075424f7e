pub mod Finished
pub mod Scanned
