-- Lemmas that more than one proof of this crate cites.
pub mod Found
