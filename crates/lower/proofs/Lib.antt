pub mod AsciiLaws
pub mod LowerLaws
pub mod Searched
pub mod Within
