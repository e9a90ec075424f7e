-- What a text starts and ends with (document 01: "base ends in `_GEN_VARIABLE`", "the outer's base starts with `Default__`"), and
-- whether it is all ASCII. Assumes nothing.
use Rattle.std.specs.Prelude.{Bool, true, false, ◌&&◌, List, [], ◌∷◌, ℕ, ◌-◌, eqb, ltb, length, drop}

abbrev pub starts_with : List ℕ → List ℕ → Bool
starts_with t [] = true
starts_with [] (x ∷ p) = false
starts_with (c ∷ t) (x ∷ p) = eqb c x && starts_with t p

-- its last characters, as many as the ending has, are the ending
unfoldable pub ends_with : List ℕ → List ℕ → Bool
ends_with t e = starts_with (drop (length t - length e) t) e

abbrev pub all_ascii : List ℕ → Bool
all_ascii [] = true
all_ascii (c ∷ t) = ltb c 128 && all_ascii t
