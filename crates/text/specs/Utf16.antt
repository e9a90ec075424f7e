-- UTF-16 (the Unicode Standard, D76, D91 and table 3-5). Assumes nothing.
use Rattle.std.specs.Prelude.{Bool, true, false, cond, ◌&&◌, List, [], ◌∷◌, ◌++◌, ◌⊎◌, ℕ, ◌+◌, ◌*◌, ◌-◌, ◌/◌, ◌%◌, ◌≤◌, ◌<◌, leb, ltb}
use Rattle.base.specs.Choose.{choose}

-- D76: a Unicode scalar value is any code point but a surrogate
abbrev pub Scalar : ℕ → Type 0
Scalar c = (c < 0xD800) ⊎ ((0xE000 ≤ c) × (c ≤ 0x10FFFF))

abbrev pub Scalars : List ℕ → Type 0
Scalars [] = Unit {0}
Scalars (c ∷ t) = Scalar c × Scalars t

-- leading (high) surrogates D800 to DBFF, trailing (low) surrogates DC00 to DFFF
abbrev pub is_high : ℕ → Bool
is_high u = leb 0xD800 u && ltb u 0xDC00

abbrev pub is_low : ℕ → Bool
is_low u = leb 0xDC00 u && ltb u 0xE000

-- D91: a scalar value up to FFFF is one unit, one above is a pair
unfoldable pub encode_one : ℕ → List ℕ
encode_one c = cond (ltb c 0x10000) (c ∷ []) ((0xD800 + (c - 0x10000) / 0x400) ∷ (0xDC00 + (c - 0x10000) % 0x400) ∷ [])

unfoldable pub encode16 : List ℕ → List ℕ
encode16 [] = []
encode16 (c ∷ t) = encode_one c ++ encode16 t

-- what a sequence of units means: a text, or nothing where it is ill-formed
pub data Decoded : Type 0 where
  well : List ℕ → Decoded
  ill : Decoded

abbrev pub is_well : Decoded → Bool
is_well (well t) = true
is_well ill = false

abbrev pub scalars : Decoded → List ℕ
scalars (well t) = t
scalars ill = []

abbrev pub more : ℕ → Decoded → Decoded
more c (well t) = well (c ∷ t)
more c ill = ill

abbrev pub of_pair : ℕ → ℕ → ℕ
of_pair u v = 0x10000 + (u - 0xD800) * 0x400 + (v - 0xDC00)

-- ill-formed exactly where a surrogate has no partner
unfoldable pub utf16 : List ℕ → Decoded
utf16 [] = well []
utf16 (u ∷ []) = choose (is_high u) (λ _. ill) (λ _. choose (is_low u) (λ _. ill) (λ _. well (u ∷ [])))
utf16 (u ∷ v ∷ us) =
    choose (is_high u)
    (λ _. choose (is_low v) (λ _. more (of_pair u v) (utf16 us)) (λ _. ill))
    (λ _. choose (is_low u) (λ _. ill) (λ _. more u (utf16 (v ∷ us))))

-- little-endian: two bytes to a unit; a last odd byte is no unit
unfoldable pub units : List ℕ → List ℕ
units [] = []
units (a ∷ []) = []
units (a ∷ b ∷ bs) = (a + 256 * b) ∷ units bs

abbrev pub unit_bytes : List ℕ → List ℕ
unit_bytes [] = []
unit_bytes (u ∷ us) = u % 256 ∷ u / 256 ∷ unit_bytes us

-- UTF-16LE of a text
abbrev pub utf16le : List ℕ → List ℕ
utf16le t = unit_bytes (encode16 t)
