-- The text of some bytes of UTF-8, and what it takes to write it. Assumes nothing.
use Rattle.std.specs.Prelude.{Bool, true, ◌&&◌, List, [], ◌∷◌, ℕ, ltb, length, Option, None, Some}
use Rattle.text.specs.Utf16.{Decoded, well, ill, scalars, encode16}
use Rattle.text.specs.Utf8.{from_utf8}
use Rattle.decode.specs.declared.measure.Measured.{Measured}

-- the scalar values of well-formed bytes
abbrev pub text_of : List ℕ → List ℕ
text_of s = scalars (from_utf8 s)

-- document 02, Q-4: "text that fits Latin-1 is written so"
abbrev pub fits_latin1 : List ℕ → Bool
fits_latin1 [] = true
fits_latin1 (c ∷ t) = ltb c 0x100 && fits_latin1 t

-- a measure: so many units, which fit Latin-1 or not
abbrev pub a_text : ℕ → Bool → Option Measured
a_text units latin = Some (record { units = units; latin = latin })

-- how many UTF-16 units a text has, and whether it fits Latin-1, where it has as many bytes
unfoldable pub measured : Decoded → Option Measured
measured (well t) = a_text (length (encode16 t)) (fits_latin1 t)
measured ill = None
