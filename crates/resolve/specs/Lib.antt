-- Layer 3 in code: what the work buffer holds of classes and rows, and the laws that tie it to crates/meaning.

-- ==== Definitions
pub mod Classes
pub mod Rows
pub mod Resolving
pub mod Marks
-- ==== Laws
-- parts of a buffer, lent and filled
pub mod Lent
pub mod Stores
-- classes: entered, found, read back
pub mod ClassesLaws
pub mod ClassesEntered
pub mod ClassesRead
-- chains and rows
pub mod ChainLaws
pub mod RowsLaws
pub mod ResolvingLaws
pub mod LinkLaws
-- marks
pub mod MarkLaws
