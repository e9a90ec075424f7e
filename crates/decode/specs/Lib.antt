-- UTF-8 read: definitions, each with its laws beside it. What bytes mean is `from_utf8` of text.

-- ---- Decoding and encoding are inverse
pub mod ReadLaws
-- ---- One character at a time, by the table of RFC 3629; its grammar
pub mod Chars
pub mod TableLaws
pub mod CharLaws
pub mod Grammar
-- ---- A text measured, written, read back
pub mod Measure
pub mod TurnLaws
pub mod MeasureLaws
pub mod Latin
pub mod Step
pub mod Narrow
pub mod NarrowLaws
pub mod Tails
pub mod WriteLaws
pub mod Run
pub mod RunLaws
pub mod Eight
pub mod BackLaws
-- ---- All of it computed at its edges
pub mod Examples
