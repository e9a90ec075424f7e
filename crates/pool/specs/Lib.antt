-- Layer 3 in code: the texts of script objects that rows keep in the work buffer.

-- ==== Definitions
pub mod Pool
-- ==== Laws
pub mod ComposeLaws
pub mod PoolLaws
