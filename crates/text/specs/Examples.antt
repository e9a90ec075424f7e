-- Text, computed at its edges: each value here is another one where a definition is off by a bit, a byte or a
-- case. Assumes nothing.
use Rattle.std.specs.Prelude.{◌≡◌, refl, true, false, List, [], ◌∷◌, map, ℕ, ◌≤◌, ◌<◌, None}
use Rattle.std.proofs.Common.{inl, inr, arith}
use Rattle.base.specs.Number.{be_bytes}
use Rattle.base.specs.Literal.{quoted as text}
use Rattle.text.specs.Utf16.{Scalar, Scalars, is_high, is_low, encode_one, encode16, well, ill, is_well, scalars, utf16, units, utf16le}
use Rattle.text.specs.Utf8.{utf8_one, utf8, from_utf8_on, from_utf8}
use Rattle.text.specs.Units.{units_of, of_units, scalar_of}
use Rattle.text.specs.Digits.{digits, decimal, hex}
use Rattle.text.specs.Name.{decoded, suffix, rendered, text_bytes}
use Rattle.text.specs.Affix.{starts_with, ends_with, all_ascii}

-- ---- text

-- the first and last of the surrogates, and those beside them
abbrev edges : List ℕ
edges = 0xD7FF ∷ 0xD800 ∷ 0xDBFF ∷ 0xDC00 ∷ 0xDFFF ∷ 0xE000 ∷ []

-- D76: a scalar value is any code point but a surrogate
pub record ScalarValues : Type 0 where
  pub all : Scalars (0 ∷ 0xD7FF ∷ 0xE000 ∷ 0x10FFFF ∷ [])
  pub not_first : Scalar 0xD800 → ⊥
  pub not_last : Scalar 0xDFFF → ⊥
  pub not-above : Scalar 0x110000 → ⊥
  pub not_within : Scalars (0 ∷ 0xD800 ∷ []) → ⊥

surrogate : (c : ℕ) → 0xD800 ≤ c → c < 0xE000 → Scalar c → ⊥
surrogate c a b (inl h) = omega arith
surrogate c a b (inr h) = omega (arith, h.0)

above : Scalar 0x110000 → ⊥
above (inl h) = omega arith
above (inr h) = omega (arith, h.1)

pub scalar-values : ScalarValues
scalar-values = record {
  all = (inl (omega arith), (inl (omega arith), (inr (omega arith, omega arith), (inr (omega arith, omega arith), tt))));
  not_first = surrogate 0xD800 (omega arith) (omega arith);
  not_last = surrogate 0xDFFF (omega arith) (omega arith);
  not-above = above;
  not_within = λ s. surrogate 0xD800 (omega arith) (omega arith) s.1.0;
}

pub record Utf-16 : Type 0 where
  pub leading : map is_high edges ≡ false ∷ true ∷ true ∷ false ∷ false ∷ false ∷ []
  pub trailing : map is_low edges ≡ false ∷ false ∷ false ∷ true ∷ true ∷ false ∷ []
  -- D91: the last scalar value of one unit, the first and the last of two
  pub encoded : encode16 (0xFFFF ∷ 0x10000 ∷ 0x10FFFF ∷ []) ≡ 0xFFFF ∷ 0xD800 ∷ 0xDC00 ∷ 0xDBFF ∷ 0xDFFF ∷ []
  pub decoded-back : utf16 (0xFFFF ∷ 0xD800 ∷ 0xDC00 ∷ 0xDBFF ∷ 0xDFFF ∷ []) ≡ well (0xFFFF ∷ 0x10000 ∷ 0x10FFFF ∷ [])
  pub empty : utf16 [] ≡ well []
  pub lone : map utf16 ((0xD83D ∷ []) ∷ (0xDE00 ∷ []) ∷ (0x41 ∷ []) ∷ []) ≡ ill ∷ ill ∷ well (0x41 ∷ []) ∷ []
  pub paired : map utf16 ((0xD83D ∷ 0x41 ∷ []) ∷ (0xDE00 ∷ 0x41 ∷ []) ∷ (0x41 ∷ 0xDE00 ∷ []) ∷ (0xD83D ∷ 0xDE00 ∷ 0x41 ∷ []) ∷ [])
      ≡ ill ∷ ill ∷ ill ∷ well (0x1F600 ∷ 0x41 ∷ []) ∷ []
  pub is_well_lem : is_well (well (0x41 ∷ [])) ∷ is_well ill ∷ [] ≡ true ∷ false ∷ []
  pub scalars_of : scalars (well (0x41 ∷ [])) ∷ scalars ill ∷ [] ≡ (0x41 ∷ []) ∷ [] ∷ []
  -- two bytes to a unit, the low one first; a last odd byte is no unit
  pub units_of_lem : units (1 ∷ 2 ∷ 3 ∷ 4 ∷ 5 ∷ []) ≡ 0x0201 ∷ 0x0403 ∷ []
  pub little_endian : utf16le (0x1F600 ∷ 0x0102 ∷ []) ≡ 0x3D ∷ 0xD8 ∷ 0x00 ∷ 0xDE ∷ 0x02 ∷ 0x01 ∷ []
  pub first-scalar : map scalar_of ([] ∷ (0xD83D ∷ []) ∷ (0xDE00 ∷ []) ∷ (0x41 ∷ []) ∷ []) ≡ None ∷ None ∷ None ∷ of_units 1 0x41 ∷ []
  pub first_of-two : map scalar_of ((0xD83D ∷ 0xDE00 ∷ []) ∷ (0xD83D ∷ 0x41 ∷ []) ∷ (0xDE00 ∷ 0x41 ∷ []) ∷ (0x41 ∷ 0x42 ∷ []) ∷ [])
      ≡ of_units 2 0x1F600 ∷ None ∷ None ∷ of_units 1 0x41 ∷ []

pub utf_16 : Utf-16
unfolding encode_one encode16 utf16 units scalar_of
utf_16 = record {
  leading = refl;
  trailing = refl;
  encoded = refl;
  decoded-back = refl;
  empty = refl;
  lone = refl;
  paired = refl;
  is_well_lem = refl;
  scalars_of = refl;
  units_of_lem = refl;
  little_endian = refl;
  first-scalar = refl;
  first_of-two = refl;
}

-- RFC 3629, section 3: the first and last scalar values of each length
abbrev lengths : List ℕ
lengths = 0 ∷ 0x7F ∷ 0x80 ∷ 0x7FF ∷ 0x800 ∷ 0xD7FF ∷ 0xE000 ∷ 0xFFFF ∷ 0x10000 ∷ 0x10FFFF ∷ []

abbrev lengths-utf8 : List ℕ
lengths-utf8 =
    0x00 ∷
    0x7F ∷
    0xC2 ∷ 0x80 ∷
    0xDF ∷ 0xBF ∷
    0xE0 ∷ 0xA0 ∷ 0x80 ∷
    0xED ∷ 0x9F ∷ 0xBF ∷
    0xEE ∷ 0x80 ∷ 0x80 ∷
    0xEF ∷ 0xBF ∷ 0xBF ∷
    0xF0 ∷ 0x90 ∷ 0x80 ∷ 0x80 ∷
    0xF4 ∷ 0x8F ∷ 0xBF ∷ 0xBF ∷
    []

-- what is no UTF-8
abbrev malformed : List (List ℕ)
malformed =
    (0x80 ∷ []) ∷  -- a byte that only goes on
    (0xBF ∷ []) ∷
    (0xC1 ∷ 0xBF ∷ []) ∷  -- overlong: two bytes for 7F
    (0xE0 ∷ 0x9F ∷ 0xBF ∷ []) ∷  -- three for 7FF
    (0xF0 ∷ 0x8F ∷ 0xBF ∷ 0xBF ∷ []) ∷  -- four for FFFF
    (0xED ∷ 0xA0 ∷ 0x80 ∷ []) ∷  -- D800
    (0xED ∷ 0xBF ∷ 0xBF ∷ []) ∷  -- DFFF
    (0xF4 ∷ 0x90 ∷ 0x80 ∷ 0x80 ∷ []) ∷  -- 110000
    (0xF8 ∷ 0x88 ∷ 0x80 ∷ 0x80 ∷ 0x80 ∷ []) ∷  -- five bytes
    (0xC2 ∷ []) ∷  -- ends too soon
    (0xC2 ∷ 0x7F ∷ []) ∷  -- does not go on
    (0xC2 ∷ 0xC0 ∷ []) ∷
    (0xE1 ∷ 0x7F ∷ 0x80 ∷ []) ∷
    (0xE1 ∷ 0xC0 ∷ 0x80 ∷ []) ∷
    []

pub record Utf-8 : Type 0 where
  pub encoded : utf8 lengths ≡ lengths-utf8
  pub decoded-back : from_utf8 lengths-utf8 ≡ well lengths
  pub refused : map (λ s. is_well (from_utf8 s)) malformed ≡ map (λ s. false) malformed

pub utf_8 : Utf-8
unfolding utf8_one from_utf8 from_utf8_on
utf_8 = record { encoded = refl; decoded-back = refl; refused = refl }

pub record Names : Type 0 where
  pub code_points : text "A_é😀" ≡ 0x41 ∷ 0x5F ∷ 0xE9 ∷ 0x1F600 ∷ []
  pub in_decimal : map decimal (0 ∷ 9 ∷ 10 ∷ 1234567890 ∷ 18446744073709551615 ∷ [])
      ≡ text "0" ∷ text "9" ∷ text "10" ∷ text "1234567890" ∷ text "18446744073709551615" ∷ []
  pub in_hexadecimal : hex 16 0xFEDCBA9876543210 ≡ text "fedcba9876543210"
  pub padded : hex 3 0x2F ≡ text "02f"
  -- "One-byte text is Latin-1"
  pub latin : decoded false (0x41 ∷ 0xE9 ∷ []) ≡ well (text "Aé")
  pub wide : decoded true (0x41 ∷ 0x00 ∷ 0xE9 ∷ 0x00 ∷ []) ≡ well (text "Aé")
  -- "Number 0 adds nothing, N adds `_` and N - 1 in decimal"
  pub suffixes : map suffix (0 ∷ 1 ∷ 2 ∷ 11 ∷ []) ≡ [] ∷ text "_0" ∷ text "_1" ∷ text "_10" ∷ []
  pub rendered-base : rendered false (text "A") 0 ∷ rendered false (text "A") 3 ∷ [] ≡ text "A" ∷ text "A_2" ∷ []
  -- "Text: 4-byte length, UTF-8"
  pub as_text : text_bytes (text "Aé") ≡ 0 ∷ 0 ∷ 0 ∷ 3 ∷ 0x41 ∷ 0xC3 ∷ 0xA9 ∷ []
  -- as units: bytes, or pairs of bytes
  pub one_byte-units : units_of false (1 ∷ 2 ∷ []) ≡ 1 ∷ 2 ∷ []
  pub two-byte-units : units_of true (1 ∷ 2 ∷ []) ≡ 0x0201 ∷ []

pub names : Names
unfolding digits decimal hex decoded utf16 units utf8_one text_bytes be_bytes units_of encode_one encode16
names = record {
  code_points = refl;
  in_decimal = refl;
  in_hexadecimal = refl;
  padded = refl;
  latin = refl;
  wide = refl;
  suffixes = refl;
  rendered-base = refl;
  as_text = refl;
  one_byte-units = refl;
  two-byte-units = refl;
}

pub record Affixes : Type 0 where
  pub starts : map (λ t. starts_with t (text "AB")) (text "AB" ∷ text "ABC" ∷ text "A" ∷ text "BAB" ∷ text "AC" ∷ text "AA" ∷ [] ∷ [])
      ≡ true ∷ true ∷ false ∷ false ∷ false ∷ false ∷ false ∷ []
  pub ends : map (λ t. ends_with t (text "AB")) (text "AB" ∷ text "CAB" ∷ text "B" ∷ text "ABA" ∷ text "CB" ∷ text "AA" ∷ [] ∷ [])
      ≡ true ∷ true ∷ false ∷ false ∷ false ∷ false ∷ false ∷ []
  pub ascii : map all_ascii ([] ∷ (0 ∷ 127 ∷ []) ∷ (128 ∷ 0 ∷ []) ∷ (0 ∷ 128 ∷ []) ∷ []) ≡ true ∷ true ∷ false ∷ false ∷ []

pub affixes : Affixes
unfolding ends_with
affixes = record { starts = refl; ends = refl; ascii = refl }
