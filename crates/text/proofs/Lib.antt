pub mod NameLoop
mod ThreesLoop
mod Words
