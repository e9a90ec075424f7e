-- Layer 3 in code: what the report's writers are lent and what they write, piece by piece, and the laws that tie it to crates/meaning.

-- ==== Definitions
pub mod Written
pub mod Pieces
pub mod Sections
-- ==== Laws
pub mod WrittenLaws
pub mod PieceLaws
pub mod RefsLaws
pub mod SectionLaws
pub mod MarkedLaws
