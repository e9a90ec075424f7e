-- Lowering a character of a name for its id.

-- ---- A to Z alone
pub mod Ascii
-- ---- Unicode's mappings: the table, the definition, what is shown over the whole table
pub mod Table
pub mod Lower
pub mod SearchLaws
pub mod TableLaws
-- ---- Laws of lowering
pub mod LowerLaws
