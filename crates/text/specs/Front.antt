-- Text from a unit on: how many of its first units are ASCII, what bytes it takes, and what of them is written. What the code counts and
-- writes. Assumes nothing.
use Rattle.std.specs.Prelude.{◌≡◌, Bool, true, false, cond, ◌&&◌, List, [], ◌∷◌, ℕ, zero, suc, ◌+◌, ◌%◌, ◌≤◌, ◌<◌, eqb, leb, ltb, length, take, drop}
use Rattle.base.specs.Output.{Wrote}
use Rattle.text.specs.Utf16.{is_well, scalars, utf16}
use Rattle.text.specs.UnitLength.{is_single}
use Rattle.text.specs.Utf8.{utf8}

-- how many of the first n units are ASCII before one that is not
unfoldable pub ascii_front : ℕ → List ℕ → ℕ
ascii_front zero us = 0
ascii_front (suc n) [] = 0
ascii_front (suc n) (u ∷ us) = cond (ltb u 128) (suc (ascii_front n us)) 0

-- how many of the first units are beyond ASCII before one that is not
unfoldable pub beyond_front : List ℕ → ℕ
beyond_front [] = 0
beyond_front (u ∷ us) = cond (ltb u 128) 0 (suc (beyond_front us))

-- how many units a turn takes: eight that are ASCII, or fewer and those beyond ASCII that follow them
unfoldable pub turn_units : List ℕ → ℕ
turn_units us = cond (eqb (ascii_front 8 us) 8) 8 (ascii_front 8 us + beyond_front (drop (ascii_front 8 us) us))

-- a scalar value by itself that takes three bytes
abbrev pub is_three : ℕ → Bool
is_three u = leb 0x800 u && is_single u

-- whether two such come first, and how many units go by in front while two do
unfoldable pub starts_three : List ℕ → Bool
starts_three [] = false
starts_three (u ∷ []) = false
starts_three (u ∷ v ∷ us) = is_three u && is_three v

unfoldable pub three_front : List ℕ → ℕ
three_front [] = 0
three_front (u ∷ []) = 0
three_front (u ∷ v ∷ us) = cond (is_three u && is_three v) (2 + three_front us) 0

-- the low byte of each unit
abbrev pub lows : List ℕ → List ℕ
lows [] = []
lows (u ∷ us) = u % 256 ∷ lows us

-- the bytes of the units from i on
abbrev pub bytes_from : List ℕ → ℕ → List ℕ
bytes_from us i = utf8 (scalars (utf16 (drop i us)))

abbrev pub well_from : List ℕ → ℕ → Bool
well_from us i = is_well (utf16 (drop i us))

-- the first n bytes of x are written to the front of s, and rest is what is still to be written
pub record Written (s x o rest : List ℕ) (n : ℕ) : Type 0 where
  pub wrote : Wrote s (take n x) o n
  pub left : drop n x ≡ rest

-- where the units from i on end: all of them, or those beyond ASCII before one that is not
abbrev pub end_of : Bool → List ℕ → ℕ → ℕ
end_of true us i = length us
end_of false us i = i + beyond_front (drop i us)

-- of the bytes of the units from i on, n are written, which are those of the units before the unit j, where all of them or those beyond ASCII end
pub record Passed (all : Bool) (us s o : List ℕ) (i j n : ℕ) : Type 0 where
  pub is : j ≡ end_of all us i
  pub within : j ≤ length us
  pub well : well_from us j ≡ true
  pub written : Written s (bytes_from us i) o (bytes_from us j) n

-- of the bytes of the units from i on, n are written, which are those of the units before the unit j: as many as are passed while two take three bytes each
pub record Begun (us s o : List ℕ) (i j n : ℕ) : Type 0 where
  pub is : j ≡ i + three_front (drop i us)
  pub within : j ≤ length us
  pub well : well_from us j ≡ true
  pub beyond : end_of false us i ≡ end_of false us j
  pub written : Written s (bytes_from us i) o (bytes_from us j) n

-- the same, where more may have been written behind the first n bytes, up to the last of x
pub record Held (s x o rest : List ℕ) (n : ℕ) : Type 0 where
  pub size : length o ≡ length s
  pub fits : n ≤ length x
  pub front : take n o ≡ take n x
  pub left : drop n x ≡ rest
  pub beyond : drop (length x) o ≡ drop (length x) s

-- of the bytes of the units from i on, n are written, which are those of a turn, up to the unit j, and maybe more behind them
pub record Turned (us s o : List ℕ) (i j n : ℕ) : Type 0 where
  pub is : j ≡ i + turn_units (drop i us)
  pub within : j ≤ length us
  pub moves : i < j
  pub well : well_from us j ≡ true
  pub held : Held s (bytes_from us i) o (bytes_from us j) n
