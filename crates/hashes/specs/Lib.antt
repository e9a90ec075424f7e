-- The hash of an object's path, made from the chain of its objects: definitions first, then laws.

-- ---- Definitions: what is answered; a chain of objects, and the units of its path; `/` for `.` and `:` in bytes; what
-- has one proof
pub mod Hashed
pub mod Chain
pub mod Slash
pub mod Once
-- ---- Laws: slashing and lowering; units counted and filled; a chain made object by object; turns of the hash over parts
pub mod SlashLaws
pub mod PieceLaws
pub mod ChainLaws
pub mod ScanLaws
pub mod TurnLaws
