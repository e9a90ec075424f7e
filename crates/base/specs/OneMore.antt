-- A number or none, as one more than the number, or 0: as links stand in a buffer, and as definitions that search say what they find.
-- Assumes nothing.
use Rattle.std.specs.Prelude.{ℕ, zero, suc, Option, Some, None}

abbrev pub one_more : Option ℕ → ℕ
one_more None = 0
one_more (Some n) = suc n

-- a number that is 0 where there is none
abbrev pub nonzero : ℕ → Option ℕ
nonzero zero = None
nonzero (suc n) = Some (suc n)
