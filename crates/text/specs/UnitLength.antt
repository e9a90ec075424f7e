-- Text by its units alone, none decoded: which of them are no surrogates, and how many bytes of UTF-8 each takes. What the code adds up.
-- Assumes nothing.
use Rattle.std.specs.Prelude.{Bool, true, cond, ◌&&◌, ◌||◌, List, [], ◌∷◌, ℕ, ◌+◌, leb, ltb}

-- whether a unit is a scalar value by itself
abbrev pub is_single : ℕ → Bool
is_single u = ltb u 0xD800 || leb 0xE000 u

abbrev pub all_single : List ℕ → Bool
all_single [] = true
all_single (u ∷ us) = is_single u && all_single us

-- a surrogate counts for two, since a pair takes four
unfoldable pub unit_length : ℕ → ℕ
unit_length u = cond (ltb u 0x80) 1 (cond (ltb u 0x800) 2 (cond (is_single u) 3 2))

abbrev pub units_length : List ℕ → ℕ
units_length [] = 0
units_length (u ∷ us) = unit_length u + units_length us
