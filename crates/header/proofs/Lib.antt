-- Lemmas that only this crate's proofs use.
pub mod Stages
pub mod Rooms
pub mod Slices
pub mod Chunks
