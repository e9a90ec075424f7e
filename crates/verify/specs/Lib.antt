-- The build's own hashes in code: what its steps count and write, and the laws that tie them to crates/meaning.

-- ---- Definitions
pub mod Tallies
pub mod Steps
-- ---- Laws
pub mod TallyLaws
pub mod StepLaws
