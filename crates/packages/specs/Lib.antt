-- Layer 3 in code: what stands where, and the laws that tie it to crates/meaning.

-- ==== Definitions
pub mod Framing
pub mod Kinds
pub mod Package
pub mod Meaning
pub mod RefBytes
pub mod Row
pub mod Numbered
pub mod Walk
-- ==== Laws
pub mod FramingLaws
pub mod Whole
pub mod PackageLaws
pub mod WalkLaws
pub mod MeaningLaws
pub mod RefBytesLaws
pub mod RowLaws
pub mod ClassPath
pub mod NumberedLaws
