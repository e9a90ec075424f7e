-- Question 24 and the class test by scanning: what is looked for, by number, and the laws that tie it to crates/meaning.

-- ==== Definitions
pub mod Blocks
pub mod Repeats
-- ==== Laws
pub mod BlockLaws
pub mod PlaceLaws
pub mod ObjectLaws
pub mod RepeatLaws
