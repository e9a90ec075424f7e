-- Document 01's script block: what is read, what answers it, where it stands.
pub mod Script
pub mod ScriptAnswers
pub mod Objects
-- For whoever uses a block: what an accepted one holds and where, what a rejected one says.
pub mod ScriptAccepted
pub mod ScriptGood
pub mod ScriptFaults
pub mod ScriptFacts
-- Lemmas, part by part: each reading by position, which the code is proved against.
pub mod ScriptLaws
