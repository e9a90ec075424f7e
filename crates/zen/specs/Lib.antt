-- Document 01's package block: what is read, what answers it, where it stands.
pub mod Zen
pub mod Answers
pub mod Lists
pub mod Layouts
-- Blocks of both kinds, computed at their edges.
pub mod Examples
pub mod PlaceExamples
-- What counts of a block's bytes, of either kind, and that the rest is passed over.
pub mod Listed
-- Which questions a block of either kind can fail.
-- For whoever uses a package: what an accepted one holds and where, what a rejected one says.
pub mod Accepted
pub mod PackageFacts
-- Lemmas, part by part: each reading by position, which the code is proved against.
pub mod AnswersLaws
pub mod TableLaws
pub mod ImportLaws
