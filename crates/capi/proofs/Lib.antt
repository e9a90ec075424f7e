-- Lemmas that the proofs of this crate cite.
pub mod Range
