-- What is written reads back: Latin-1 and UTF-16LE of a text decode to that text. Assumes nothing.
use Rattle.std.specs.Prelude.{◌≡◌, refl, true, false, List, [], ◌∷◌, ℕ, zero, suc, ◌+◌, ◌*◌, ◌/◌, ◌%◌, ltb}
use Rattle.std.proofs.Common.{ap, ◌∙◌, arith, ltb-true}
use Rattle.std.proofs.Math.Bool.{and-eq-true_iff}
use Rattle.base.specs.Never.{never}
use Rattle.base.specs.NumberLaws.{Bytes}
use Rattle.text.specs.Utf16.{Decoded, well, ill, is_well, scalars, utf16, units, unit_bytes, utf16le, encode16}
use Rattle.text.specs.UnitsLaws.{decode_encode}
use Rattle.text.specs.Utf8.{from_utf8}
use Rattle.text.specs.Name.{decoded}
use Rattle.decode.specs.ReadLaws.{utf8_encode}
use Rattle.decode.specs.Measure.{text_of, fits_latin1}

units-back : (us : List ℕ) → units (unit_bytes us) ≡ us
unfolding units
units-back [] = refl
units-back (u ∷ us) = let e : u % 256 + 256 * (u / 256) ≡ u = omega arith in rw (e, units-back us)

well-text : (s : List ℕ) → is_well (from_utf8 s) ≡ true → well (text_of s) ≡ from_utf8 s
well-text s ok = go (from_utf8 s) ok
  where
    go : (d : Decoded) → is_well d ≡ true → well (scalars d) ≡ d
    go (well t) ok = refl
    go ill ok = never (cc)

pub latin-back : (s : List ℕ) → is_well (from_utf8 s) ≡ true → decoded false (text_of s) ≡ from_utf8 s
unfolding decoded
latin-back s ok = well-text s ok

pub wide_back : (s : List ℕ) → is_well (from_utf8 s) ≡ true → decoded true (utf16le (text_of s)) ≡ from_utf8 s
unfolding decoded
wide_back s ok = ap utf16 (units-back (encode16 (text_of s))) ∙ decode_encode (text_of s) (utf8_encode s ok).1 ∙ well-text s ok

-- Latin-1 is of bytes
pub latin-bytes : (t : List ℕ) → fits_latin1 t ≡ true → Bytes t
latin-bytes [] e i = omega arith
latin-bytes (c ∷ t) e zero = ltb-true c 0x100 ((and-eq-true_iff (ltb c 0x100) (fits_latin1 t)).0 e).0
latin-bytes (c ∷ t) e (suc i) = latin-bytes t ((and-eq-true_iff (ltb c 0x100) (fits_latin1 t)).0 e).1 i
