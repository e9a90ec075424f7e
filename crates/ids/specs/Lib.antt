-- Layer 1: the id of a name. Definitions, each with its laws beside it.

-- ---- Lowered text, by its units
pub mod LoweredUnits
pub mod LowerLaws
-- ---- The id of a name
pub mod Id
pub mod IdLaws
-- ---- All of it computed at its edges
pub mod Examples
