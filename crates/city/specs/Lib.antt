-- Layer 1: CityHash64.

-- ---- Words of 64 bits, and the hash
pub mod Word
pub mod City
pub mod CityLaws
-- ---- Computed at its edges
pub mod CityExamples
