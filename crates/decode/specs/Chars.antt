-- UTF-8 read one character at a time, by the table of RFC 3629, section 4. Assumes nothing.
use Rattle.std.specs.Prelude.{Bool, cond, ◌&&◌, List, [], ◌∷◌, ℕ, ◌+◌, ◌*◌, ◌-◌, ◌≤◌, leb, eqb, get_or, Option, None, Some}
use Rattle.base.specs.Choose.{choose}
use Rattle.decode.specs.declared.chars.Char.{Char}

-- "%x80-BF": the bytes from 80 to BF
abbrev pub within : ℕ → ℕ → ℕ → Bool
within low high b = leb low b && leb b high

abbrev pub Range : ℕ → ℕ → ℕ → Type 0
Range low high b = (low ≤ b) × (b ≤ high)

-- "UTF8-tail = %x80-BF"
abbrev pub tail : ℕ → Bool
tail b = within 0x80 0xBF b

-- what may be second after a, in three bytes or four: a tail, but for "%xE0 %xA0-BF", "%xED %x80-9F", "%xF0 %x90-BF", "%xF4 %x80-8F"
unfoldable pub second : ℕ → ℕ → Bool
second a b =
    cond (eqb a 0xE0) (within 0xA0 0xBF b)
    (cond (eqb a 0xED) (within 0x80 0x9F b)
    (cond (eqb a 0xF0) (within 0x90 0xBF b)
    (cond (eqb a 0xF4) (within 0x80 0x8F b) (tail b))))

-- "UTF8-2 = %xC2-DF UTF8-tail"
unfoldable pub is_two : ℕ → ℕ → Bool
is_two a b = within 0xC2 0xDF a && tail b

-- "UTF8-3 = %xE0 %xA0-BF UTF8-tail / %xE1-EC 2( UTF8-tail ) / %xED %x80-9F UTF8-tail / %xEE-EF 2( UTF8-tail )"
unfoldable pub is_three : ℕ → ℕ → ℕ → Bool
is_three a b c = within 0xE0 0xEF a && second a b && tail c

-- three bytes whose first asks nothing more of the second than that it is a tail: "%xE1-EC 2( UTF8-tail )"
unfoldable pub is_common : ℕ → ℕ → ℕ → Bool
is_common a b c = within 0xE1 0xEC a && tail b && tail c

-- "UTF8-4 = %xF0 %x90-BF 2( UTF8-tail ) / %xF1-F3 3( UTF8-tail ) / %xF4 %x80-8F 2( UTF8-tail )"
unfoldable pub is_four : ℕ → ℕ → ℕ → ℕ → Bool
is_four a b c d = within 0xF0 0xF4 a && second a b && tail c && tail d

-- the bits so far, and the six of a tail
abbrev pub joined : ℕ → ℕ → ℕ
joined bits b = bits * 64 + (b - 0x80)

-- a scalar value and how many bytes it takes
abbrev pub a_char : ℕ → ℕ → Option Char
a_char value size = Some (record { value = value; size = size })

-- the character that starts with byte a, which b, c, d follow; "UTF8-1 = %x00-7F"
unfoldable pub char_by : ℕ → ℕ → ℕ → ℕ → Option Char
char_by a b c d =
    choose (leb a 0x7F) (λ _. a_char a 1)
    (λ _. choose (is_two a b) (λ _. a_char (joined (a - 0xC0) b) 2)
    (λ _. choose (is_three a b c) (λ _. a_char (joined (joined (a - 0xE0) b) c) 3)
    (λ _. choose (is_four a b c d) (λ _. a_char (joined (joined (joined (a - 0xF0) b) c) d) 4) (λ _. None))))

-- the first character of some bytes, and how many it takes; a byte that is not there counts as 0, which is no tail
unfoldable pub char_of : List ℕ → Option Char
char_of [] = None
char_of (a ∷ s) = char_by a (get_or s 0 0) (get_or s 1 0) (get_or s 2 0)
