pub mod Seeking
pub mod ScriptAccepted
pub mod ScriptGood
pub mod ScriptFacts
pub mod ScriptLaws
