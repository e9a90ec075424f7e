-- Document 01's name batch, and the fields of blocks: what is read, what answers it, where it stands.
pub mod Cursor
pub mod Field
pub mod Batch
pub mod BatchAnswers
pub mod Places
pub mod Notes
-- For whoever uses a name: what stands at its place.
pub mod Holds
-- Lemmas, part by part: each reading by position, which the code is proved against.
pub mod PlacesLaws
pub mod BatchAnswersLaws
pub mod BatchLaws
pub mod FoundBatch
pub mod CursorLaws
