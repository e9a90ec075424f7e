-- Layer 3: what the report is, and what is proved of it.

-- ==== What must be believed: definitions, in document 01's order
pub mod Frame
pub mod Path
pub mod Key
pub mod Reference
pub mod Scan
pub mod Resolve
pub mod Report
pub mod Call
-- document 02: the call with its limits
pub mod Limited
-- document 02's calls: the build's own hashes
pub mod Verify
-- a corpus from the writing side, and demand 3's relation of two corpora
pub mod Bytes
pub mod Rearranged
-- chains and outer chains, in document 01's words
pub mod Chain
-- ==== What is proved: statements
-- document 01's examples, computed
pub mod Computed
pub mod Written
pub mod Examples
pub mod Edges
pub mod AccentExamples
pub mod CallExamples
pub mod RowExamples
pub mod LimitExamples
pub mod RoomExamples
pub mod RangeExamples
pub mod VerifyExamples
-- the own chain, the native class, rows in the report's bytes
pub mod OwnChain
pub mod Rows
pub mod Whole
pub mod Fields
pub mod Texts
-- demand 1: the first question that fails
pub mod Order
pub mod Decoded
-- demand 3
pub mod Rearrange
-- two limits on one corpus: what is known stays known
pub mod Monotone
-- the build's own hashes: counts and output
pub mod PathUnits
pub mod VerifyObjects
pub mod VerifyFits
pub mod VerifyRefusals
pub mod VerifyRearranged
-- theorems that shut out wrong readings
pub mod ClassTest
pub mod Lengths
pub mod Bounds
pub mod Shut
-- ==== Laws and lemmas
pub mod Answered
pub mod KeyLaws
pub mod Table
pub mod Repeats
pub mod BytesLaws
pub mod Accepted
pub mod Sections
pub mod Rewriting
pub mod Reordering
pub mod RearrangedLaws
pub mod LimitsChain
