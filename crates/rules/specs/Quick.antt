-- Lowering with no table at hand, where a short rule says how. Assumes nothing.
use Rattle.std.specs.Prelude.{Bool, false, cond, ◌&&◌, ◌||◌, List, [], ◌∷◌, ℕ, Option, Some, None, eqb, leb, ltb}
use Rattle.lower.specs.Lower.{lower}

-- whether c lies in one of some ranges, each from its first up to and without its second
unfoldable pub among : List (ℕ × ℕ) → ℕ → Bool
among [] c = false
among (r ∷ rs) c = (leb r.0 c && ltb c r.1) || among rs c

-- the ranges with capitals that no short rule lowers: for these the table is asked
unfoldable pub askers : List (ℕ × ℕ)
askers =
    (0x180, 0x1A0) ∷ (0x1A6, 0x1AF) ∷ (0x1B1, 0x1CD) ∷ (0x1F0, 0x1F8) ∷ (0x220, 0x222) ∷ (0x23A, 0x246) ∷
    (0x370, 0x386) ∷ (0x3CF, 0x3D8) ∷ (0x3F0, 0x400) ∷
    (0x10A0, 0x10CE) ∷ (0x13A0, 0x13F6) ∷ (0x1C89, 0x1CC0) ∷ (0x1F00, 0x2000) ∷ (0x2126, 0x2184) ∷ (0x24B6, 0x24D0) ∷ (0x2C00, 0x2CF3) ∷
    (0xA640, 0xA7F6) ∷ []

unfoldable pub asks : ℕ → Bool
unfolding among askers
asks c = among askers c

-- the lower-case form of a character; where the table is asked, a number that no character has
unfoldable pub quick : ℕ → ℕ
unfolding asks lower
quick c = cond (asks c) 0x110000 (lower c)

-- the same as the code has it: nothing where the table is asked
abbrev pub asked : ℕ → Option ℕ
asked n = cond (eqb n 0x110000) None (Some n)
