-- Laws of measuring: what a measure says. Assumes nothing.
use Rattle.std.specs.Prelude.{◌≡◌, Bool, true, List, ℕ, length}
use Rattle.text.specs.Utf16.{is_well, encode16}
use Rattle.text.specs.Utf8.{from_utf8}
use Rattle.decode.specs.Measure.{text_of, fits_latin1}

-- what a measure says: the bytes are well-formed, the text has n units, and it fits Latin-1 or not
pub record Said (s : List ℕ) (n : ℕ) (latin : Bool) : Type 0 where
  pub is-utf8 : is_well (from_utf8 s) ≡ true
  pub units : length (encode16 (text_of s)) ≡ n
  pub fits : fits_latin1 (text_of s) ≡ latin
