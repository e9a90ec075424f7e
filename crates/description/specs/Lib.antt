-- Descriptions of headers in house form: what the call answers, and what is proved of it. What a header's bytes are is written/HeaderBytes.antt.

-- ==== What must be believed: definitions
pub mod Form
pub mod Call
pub mod FormBytes
pub mod Zeroed
-- ==== What is proved: computed examples
pub mod Examples
-- ==== Laws and lemmas
pub mod BatchFront
pub mod HeaderFront
pub mod HeaderBack
pub mod ZeroLaws
pub mod FormLaws
pub mod CallLaws
