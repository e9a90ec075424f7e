-- The script objects in the work buffer: definitions first, then laws.

-- ---- Definitions: objects by number; what the work buffer holds of them; what is told of a path
pub mod Numbers
pub mod Work
pub mod Told
-- ---- Laws: a path over links is document 01's; objects entered, linked; paths followed, told and written, and how long they are
pub mod NumberLaws
pub mod WorkLaws
pub mod EnterLaws
pub mod LinkLaws
pub mod PathLaws
pub mod ToldLaws
pub mod PutLaws
pub mod PathLength
