-- Layer 1, at its bottom: definitions, each with its laws beside it.

-- ---- Choosing by a test; lists
pub mod Never
pub mod Choose
pub mod Find
pub mod FindLaws
pub mod LoopLaws
pub mod Perm
-- ---- Numbers: in bytes, signed, written to the front of a buffer
pub mod Number
pub mod NumberLaws
pub mod Signed
pub mod SignedSize
pub mod SignedLaws
pub mod Output
pub mod OutputLaws
-- ---- Indices and answers
pub mod Index
pub mod IndexLaws
pub mod Answer
pub mod Refusal
pub mod Kind
-- ---- Texts as they stand in examples
pub mod Literal
-- ---- Readings: blocks as programs of reads, arrays of records, which bytes count
pub mod Reading
pub mod ReadingLaws
pub mod ReadingRows
pub mod OneMore
pub mod Seek
pub mod SeekLaws
pub mod ReadingFront
pub mod ReadingFrontRows
pub mod ReadingGives
pub mod ReadingMarks
pub mod ReadingRewrite
pub mod ReadingTrail
pub mod ReadingRefusals
-- ---- The house form: length first, big-endian
pub mod House
pub mod HouseLaws
-- ---- All of it computed at its edges
pub mod Examples
pub mod ReadingExamples
