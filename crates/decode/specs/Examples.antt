-- The edges of the table, computed: each value here is another one where a definition is off by a byte or a case. Assumes nothing.
use Rattle.std.specs.Prelude.{◌≡◌, refl, true, false, List, [], ◌∷◌, map, ℕ, None}
use Rattle.base.specs.Literal.{quoted as text}
use Rattle.text.specs.Utf16.{well, ill, encode_one, encode16}
use Rattle.text.specs.Utf8.{utf8_one, utf8, from_utf8, from_utf8_on}
use Rattle.decode.specs.Chars.{second, is_two, is_three, is_four, char_by, char_of, a_char}
use Rattle.decode.specs.Measure.{text_of, fits_latin1, measured, a_text}

-- what starts with no character
abbrev none : List (List ℕ)
none =
    [] ∷
    (0x80 ∷ []) ∷  -- a lone tail, the first and the last
    (0xBF ∷ 0x80 ∷ []) ∷
    (0xC0 ∷ 0x80 ∷ []) ∷  -- overlong: two bytes for 0 and 7F
    (0xC1 ∷ 0xBF ∷ []) ∷
    (0xE0 ∷ 0x80 ∷ 0x80 ∷ []) ∷  -- three for 0 and 7FF
    (0xE0 ∷ 0x9F ∷ 0xBF ∷ []) ∷
    (0xF0 ∷ 0x80 ∷ 0x80 ∷ 0x80 ∷ []) ∷  -- four for 0 and FFFF
    (0xF0 ∷ 0x8F ∷ 0xBF ∷ 0xBF ∷ []) ∷
    (0xED ∷ 0xA0 ∷ 0x80 ∷ []) ∷  -- surrogates: D800 and DFFF
    (0xED ∷ 0xBF ∷ 0xBF ∷ []) ∷
    (0xF4 ∷ 0x90 ∷ 0x80 ∷ 0x80 ∷ []) ∷  -- 110000, and first bytes that only larger ones would have
    (0xF5 ∷ 0x80 ∷ 0x80 ∷ 0x80 ∷ []) ∷
    (0xF8 ∷ 0x88 ∷ 0x80 ∷ 0x80 ∷ 0x80 ∷ []) ∷
    (0xFF ∷ []) ∷
    (0xC2 ∷ []) ∷  -- cut
    (0xE1 ∷ 0x80 ∷ []) ∷
    (0xF1 ∷ 0x80 ∷ 0x80 ∷ []) ∷
    (0xC2 ∷ 0x7F ∷ []) ∷  -- no tail where one is due, in each place
    (0xC2 ∷ 0xC0 ∷ []) ∷
    (0xE1 ∷ 0x7F ∷ 0x80 ∷ []) ∷
    (0xE1 ∷ 0x80 ∷ 0xC0 ∷ []) ∷
    (0xF1 ∷ 0xC0 ∷ 0x80 ∷ 0x80 ∷ []) ∷
    (0xF1 ∷ 0x80 ∷ 0x7F ∷ 0x80 ∷ []) ∷
    (0xF1 ∷ 0x80 ∷ 0x80 ∷ 0xC0 ∷ []) ∷
    []

-- the first and the last character of each row of the table, and what follows is not looked at
pub record Table : Type 0 where
  pub one : map char_of ((0x00 ∷ []) ∷ (0x7F ∷ 0x80 ∷ []) ∷ []) ≡ a_char 0x00 1 ∷ a_char 0x7F 1 ∷ []
  pub two : map char_of ((0xC2 ∷ 0x80 ∷ []) ∷ (0xDF ∷ 0xBF ∷ 0x80 ∷ []) ∷ []) ≡ a_char 0x80 2 ∷ a_char 0x7FF 2 ∷ []
  pub three : map char_of (
      (0xE0 ∷ 0xA0 ∷ 0x80 ∷ []) ∷ (0xE0 ∷ 0xBF ∷ 0xBF ∷ []) ∷
      (0xE1 ∷ 0x80 ∷ 0x80 ∷ []) ∷ (0xEC ∷ 0xBF ∷ 0xBF ∷ []) ∷
      (0xED ∷ 0x80 ∷ 0x80 ∷ []) ∷ (0xED ∷ 0x9F ∷ 0xBF ∷ []) ∷
      (0xEE ∷ 0x80 ∷ 0x80 ∷ []) ∷ (0xEF ∷ 0xBF ∷ 0xBF ∷ 0x80 ∷ []) ∷ [])
      ≡ a_char 0x800 3 ∷ a_char 0xFFF 3 ∷ a_char 0x1000 3 ∷ a_char 0xCFFF 3 ∷ a_char 0xD000 3 ∷ a_char 0xD7FF 3 ∷ a_char 0xE000 3 ∷ a_char 0xFFFF 3 ∷ []
  pub four : map char_of (
      (0xF0 ∷ 0x90 ∷ 0x80 ∷ 0x80 ∷ []) ∷ (0xF0 ∷ 0xBF ∷ 0xBF ∷ 0xBF ∷ []) ∷
      (0xF1 ∷ 0x80 ∷ 0x80 ∷ 0x80 ∷ []) ∷ (0xF3 ∷ 0xBF ∷ 0xBF ∷ 0xBF ∷ []) ∷
      (0xF4 ∷ 0x80 ∷ 0x80 ∷ 0x80 ∷ []) ∷ (0xF4 ∷ 0x8F ∷ 0xBF ∷ 0xBF ∷ 0x80 ∷ []) ∷ [])
      ≡ a_char 0x10000 4 ∷ a_char 0x3FFFF 4 ∷ a_char 0x40000 4 ∷ a_char 0xFFFFF 4 ∷ a_char 0x100000 4 ∷ a_char 0x10FFFF 4 ∷ []
  pub no_char : map char_of none ≡ map (λ s. None) none

pub table : Table
unfolding second is_two is_three is_four char_by char_of
table = record { one = refl; two = refl; three = refl; four = refl; no_char = refl }

pub record Texts : Type 0 where
  pub read : from_utf8 (0x41 ∷ 0xC3 ∷ 0xA9 ∷ 0xE2 ∷ 0x82 ∷ 0xAC ∷ 0xF0 ∷ 0x9F ∷ 0x98 ∷ 0x80 ∷ []) ≡ well (text "Aé€😀")
  -- ill-formed behind a character, and cut
  pub not-read : map from_utf8 ((0x41 ∷ 0x80 ∷ []) ∷ (0x41 ∷ 0xC3 ∷ []) ∷ (0xED ∷ 0xA0 ∷ 0xBD ∷ 0xED ∷ 0xB8 ∷ 0x80 ∷ []) ∷ []) ≡ ill ∷ ill ∷ ill ∷ []
  pub latin : map fits_latin1 ([] ∷ (0 ∷ 0xFF ∷ []) ∷ (0x100 ∷ 0 ∷ []) ∷ (0 ∷ 0x100 ∷ []) ∷ []) ≡ true ∷ true ∷ false ∷ false ∷ []
  pub text_of_lem : text_of (0xC3 ∷ 0xA9 ∷ []) ≡ text "é"
  -- a pair counts 2
  pub sizes : map (λ t. measured (from_utf8 (utf8 t))) ([] ∷ text "Aé" ∷ text "A€" ∷ text "Aé€😀" ∷ (0xFFFF ∷ 0x10000 ∷ []) ∷ [])
      ≡ a_text 0 true ∷ a_text 2 true ∷ a_text 2 false ∷ a_text 5 false ∷ a_text 3 false ∷ []
  pub no_text : measured (from_utf8 (0x41 ∷ 0x80 ∷ [])) ≡ None

pub texts : Texts
unfolding utf8_one from_utf8 from_utf8_on encode_one encode16 measured
texts = record { read = refl; not-read = refl; latin = refl; text_of_lem = refl; sizes = refl; no_text = refl }
