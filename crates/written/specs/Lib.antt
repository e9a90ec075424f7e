-- Layer 2 from the writing side: definitions.

-- ---- A batch of names, and the header of a package that is described (document 02, Q-4)
pub mod BatchBytes
pub mod HeaderBytes
-- ---- Blocks for examples
pub mod Written
-- ---- Computed at its edges
pub mod HeaderExamples
