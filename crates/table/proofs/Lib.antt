pub mod Stores
pub mod Grown
pub mod Searching
pub mod Attached
