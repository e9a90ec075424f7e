-- Layer 3 in code, on top: what the call knows at each step, and the laws that tie it to crates/meaning.

-- ==== Definitions
pub mod CallSteps
-- ==== Laws
pub mod CallLaws
