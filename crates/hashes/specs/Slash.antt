-- `.` and `:` turned to `/` in UTF-16LE bytes. Assumes nothing.
use Rattle.std.specs.Prelude.{cond, ◌&&◌, ◌||◌, List, [], ◌∷◌, ℕ, zero, suc, eqb}

-- the low byte of a unit
abbrev pub slash_low : ℕ → ℕ → ℕ
slash_low low high = cond (eqb high 0 && (eqb low 0x2E || eqb low 0x3A)) 0x2F low

-- the first n units of some bytes
unfoldable pub slash_bytes : ℕ → List ℕ → List ℕ
slash_bytes zero s = s
slash_bytes (suc n) [] = []
slash_bytes (suc n) (low ∷ []) = low ∷ []
slash_bytes (suc n) (low ∷ high ∷ s) = slash_low low high ∷ high ∷ slash_bytes n s
