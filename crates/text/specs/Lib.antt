-- Layer 1: text. Definitions, each with its laws beside it.

-- ---- UTF-16, UTF-8, digits, names, affixes
pub mod Utf16
pub mod Utf16Cases
pub mod Utf16Laws
pub mod UnitBytesLaws
pub mod Units
pub mod UnitsLaws
pub mod Utf8
pub mod Utf8Laws
pub mod UnitLength
pub mod UnitLengthLaws
pub mod Digits
pub mod DigitsLaws
pub mod Name
pub mod NameLaws
pub mod NameLength
pub mod Parts
pub mod Affix
pub mod AffixLaws
pub mod Plain
pub mod PlainLaws
pub mod Front
pub mod FrontLaws
-- ---- All of it computed at its edges
pub mod Examples
