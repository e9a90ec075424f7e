pub mod Joined
pub mod Machine
pub mod Signs
pub mod Numbers
pub mod Nonzero
