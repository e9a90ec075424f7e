-- What is refused, by the number of the question that failed (document 01: "Questions in order"; document 02 for 27 to 29). 23 is asked no more
-- (document 02, Q-1). Assumes nothing.
use Rattle.std.specs.Prelude.{ℕ, Result, Ok, Err}
use Rattle.base.specs.declared.refusal.Refusal.{Refusal}
use Rattle.base.specs.declared.refusal.Refusal.TheVariants.{Framing, Version, Cut, HashVersion, NameOutside, IllFormedName, StringsLeft, NegativeCount, CountTooLarge, NameIndex, NotAnObject, RepeatedObject, EntriesLeft, Flag, HeaderSize, NegativeOffset, OffsetOrder, NegativeBulk, BulkEnd, Multiples, ExportMultiples, NamesLeft, RepeatedClass, WorkRoom, ReportRoom, Malformed, HeaderRoom, Limits}
use Rattle.base.specs.declared.refusal.Refused.{Refused}

abbrev pub number : Refusal → ℕ
-- the corpus: "does its length equal 4 plus the first length?", "Version 1?"
number Framing = 1
number Version = 2
-- a block: "are its bytes there?"
number Cut = 3
-- a batch: "version right?", "within the strings?", "valid UTF-16?", "Strings used up?"
number HashVersion = 4
number NameOutside = 5
number IllFormedName = 6
number StringsLeft = 7
-- the script block: "count not negative?", "32 times count left?", "name index in batch?", "kind 1?", "index new?", "Nothing left?"
number NegativeCount = 8
number CountTooLarge = 9
number NameIndex = 10
number NotAnObject = 11
number RepeatedObject = 12
number EntriesLeft = 13
-- a package: "flag 0?", "Header size within the block?", "not negative?", "at least its predecessor", "Bulk size not negative?",
-- "Do bulk bytes end at public hashes?", "multiples of 8?", "Exports of 72?", "Nothing left?"
number Flag = 14
number HeaderSize = 15
number NegativeOffset = 16
number OffsetOrder = 17
number NegativeBulk = 18
number BulkEnd = 19
number Multiples = 20
number ExportMultiples = 21
number NamesLeft = 22
-- "no class key twice?", work, report
number RepeatedClass = 24
number WorkRoom = 25
number ReportRoom = 26
-- a description, the header's buffer, limits
number Malformed = 27
number HeaderRoom = 28
number Limits = 29

-- an answer with the refusal's number in the refusal's place
abbrev pub numbered : {A : Type 0} → Result A Refusal → Result A ℕ
numbered (Ok a) = Ok a
numbered (Err r) = Err (number r)

-- the same of a refusal with its block
abbrev pub numbers : Refused → ℕ × ℕ
numbers r = (number r.why, r.block)

abbrev pub located : {A : Type 0} → Result A Refused → Result A (ℕ × ℕ)
located (Ok a) = Ok a
located (Err r) = Err (numbers r)

-- the number of a refusal, or 0 where nothing is refused
abbrev pub fault : {A : Type 0} → Result A Refusal → ℕ
fault (Ok a) = 0
fault (Err r) = number r
