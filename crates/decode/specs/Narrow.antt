-- Text of characters of one and two bytes, by each byte and the one before. Assumes nothing.
use Rattle.std.specs.Prelude.{◌≡◌, Bool, true, false, cond, not, ◌&&◌, ◌||◌, List, [], ◌∷◌, ℕ, ◌+◌, leb, ltb, Option, None, Some}
use Rattle.std.specs.Bool.{xor}
use Rattle.decode.specs.declared.narrow.Seen.{Seen}
use Rattle.decode.specs.Chars.{within, tail}
use Rattle.decode.specs.Latin.{all_low}

-- b can't come after z: a tail comes after a first byte of two and nowhere else; C0 and C1 start overlong forms, E0 and above longer characters
unfoldable pub wrong : ℕ → ℕ → Bool
wrong z b = xor (tail b) (leb 0xC0 z) || within 0xC0 0xC1 b || leb 0xE0 b

-- each byte can come after the one before it, the first after z
abbrev pub all_right : ℕ → List ℕ → Bool
all_right z [] = true
all_right z (b ∷ s) = not (wrong z b) && all_right b s

-- the last byte, or the one before all
abbrev pub last_byte : ℕ → List ℕ → ℕ
last_byte before [] = before
last_byte before (b ∷ s) = last_byte b s

-- how many bytes end a character, of one byte or two
abbrev pub ends : List ℕ → ℕ
ends [] = 0
ends (b ∷ s) = cond (ltb b 0xC0) 1 0 + ends s

-- what is seen of some bytes after z that are right
pub record SeenRight (z : ℕ) (s : List ℕ) (w : Seen) : Type 0 where
  pub right : all_right z s ≡ true
  pub low : w.low ≡ all_low s
  pub units : w.units ≡ ends s

-- what is seen of some bytes after z: nothing where one of them isn't right
abbrev pub Window : ℕ → List ℕ → Option Seen → Type 0
Window z s (Some w) = SeenRight z s w
Window z s None = all_right z s ≡ false
