-- Lowering a name for its id (document 02, Q-1: "follows the Unicode lowercase mappings, one character to one"). Assumes nothing.
use Rattle.std.specs.Prelude.{cond, List, [], ◌∷◌, ℕ, ltb}
use Rattle.lower.specs.Table.{pairs}

-- the second of the pair whose first is c, looked for in rising order of the firsts; where there is none, c
unfoldable pub second_of : ℕ → List (ℕ × ℕ) → ℕ
second_of c [] = c
second_of c (p ∷ ps) = cond (ltb c p.0) c (cond (ltb p.0 c) (second_of c ps) p.1)

-- the lower-case form of a scalar value. To unfold `lower` is to unfold the search and the table
unfoldable pub lower : ℕ → ℕ
unfolding second_of pairs
lower c = second_of c pairs

-- a text, scalar value by scalar value
abbrev pub lowered : List ℕ → List ℕ
lowered [] = []
lowered (c ∷ t) = lower c ∷ lowered t

-- pairs laid flat: first, second, first, second, ..
unfoldable pub flat : List (ℕ × ℕ) → List ℕ
flat [] = []
flat (p ∷ ps) = p.0 ∷ p.1 ∷ flat ps
