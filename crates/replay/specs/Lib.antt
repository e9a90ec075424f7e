-- The recorded list, as data/README.md lays it out.

-- ==== Definitions
pub mod Parts
