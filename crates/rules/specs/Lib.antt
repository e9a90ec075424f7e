-- Lowering by rules, with no table at hand: each rule by a computed test over its characters.

-- ---- Short rules, and where the table is asked
pub mod Quick
pub mod QuickLaws
pub mod LatinLaws
pub mod Runs
-- ---- What lowering A to Z lowers right
pub mod Caseless
pub mod CaselessLaws
-- ---- Scripts, with no branch
pub mod Scripts
pub mod ScriptLaws
