-- Layer 3 in code: a corpus opened (questions 1 to 24), and what its packages hold entered in the work buffer.

-- ==== Definitions
-- what the walk over the packages finds
pub mod Found
pub mod Steps
-- what is known of a corpus as it is opened
pub mod OpenSteps
-- the number that a call returns
pub mod Answers
-- ==== Laws
pub mod FoundLaws
pub mod RepeatLaws
pub mod SizeLaws
pub mod KeptLaws
pub mod StateLaws
pub mod MarkedLaws
pub mod OpenLaws
