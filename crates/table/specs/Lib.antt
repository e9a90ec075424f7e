-- A look-up table in a lent buffer: definitions first, then laws.

-- ---- Definitions: numbers in a buffer and parts of it; entries by number; the tree of a bucket; the table
pub mod Words
pub mod Entries
pub mod Tree
pub mod Table
-- ---- Laws that callers use
pub mod WordLaws
pub mod EntryLaws
pub mod TableLaws
pub mod AddedLaws
-- ---- Laws of the tree, which only these use
pub mod TurnLaws
pub mod TreeLaws
