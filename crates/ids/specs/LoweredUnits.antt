-- The units of a lowered text and of a lowered name, as the id takes them. Assumes nothing.
use Rattle.std.specs.Prelude.{Bool, true, cond, ◌&&◌, List, [], ◌∷◌, ◌++◌, ℕ, ◌+◌, ◌-◌, ◌%◌}
use Rattle.std.specs.Int.Bits.{bit_or}
use Rattle.lower.specs.Lower.{lower, lowered}
use Rattle.text.specs.Utf16.{is_high, is_low, of_pair, encode16}

-- a unit of a lowered text, by the unit before it: a leading surrogate stays, a trailing one is lowered with its pair
unfoldable pub lowered_unit : ℕ → ℕ → ℕ
lowered_unit before u = cond (is_high u) u (cond (is_low u) (0xDC00 + (lower (of_pair before u) - 0x10000) % 0x400) (lower u))

-- whether a test holds of each of some units
abbrev pub all_are : (ℕ → Bool) → List ℕ → Bool
all_are t [] = true
all_are t (u ∷ us) = t u && all_are t us

-- the bits of some units together, with those of b
abbrev pub bits_from : ℕ → List ℕ → ℕ
bits_from b [] = b
bits_from b (u ∷ us) = bits_from (bit_or b u) us

-- the units of a lowered name: those of its base, lowered as scalar values, and its suffix, which has no letter
unfoldable pub name_units : List ℕ → List ℕ → List ℕ
name_units base suffix = encode16 (lowered base) ++ suffix
