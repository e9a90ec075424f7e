-- Writing headers in code: a description by position, and that what is written is the header that the call answers (description/Call.antt).

-- ==== Definitions: by position
pub mod Places
pub mod Parts
pub mod Pieces
-- ==== Laws and lemmas: by position, loops over texts, sizes
pub mod Told
pub mod PlaceLaws
pub mod FormPlaces
pub mod TextLoops
pub mod PartsLaws
pub mod PiecesLaws
pub mod RegionLaws
pub mod WritingLaws
pub mod LaidLaws
pub mod AnswerLaws
