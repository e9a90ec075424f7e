-- What is claimed: the demands and the clauses, in their order.
pub mod Claims
-- Document 01's table of examples, and its mistaken readings.
pub mod Examples
-- Two limits on one corpus: what is known stays known.
pub mod Limits
-- The build's own hashes.
pub mod Verify
-- Writing headers.
pub mod Header
