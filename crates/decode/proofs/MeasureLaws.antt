-- Laws of measuring: what a measure says. Assumes nothing.
use Rattle.std.specs.Prelude.{◌≡◌, refl, Bool, true, List, [], ◌∷◌, ℕ, ◌*◌, ◌≤◌, ltb, length, None, Some}
use Rattle.std.proofs.Common.{sym, ap, ◌∙◌, arith, ltb-true, length-append}
use Rattle.std.proofs.Math.Bool.{and-eq-true_iff}
use Rattle.base.specs.Never.{never}
use Rattle.text.specs.Utf16.{Decoded, well, ill, scalars, encode_one, encode16, utf16le}
use Rattle.text.specs.UnitBytesLaws.{unit_bytes-length}
use Rattle.text.specs.Utf8.{utf8_one, utf8, from_utf8}
use Rattle.decode.specs.declared.measure.Measured.{Measured}
use Rattle.decode.specs.ReadLaws.{utf8_encode}
use Rattle.decode.specs.Measure.{text_of, fits_latin1, measured}
use Rattle.decode.proofs.TurnLaws.{one_unit, fewer-units}
pub use Rattle.decode.specs.MeasureLaws.{Said}

pub measured-text : (s : List ℕ) {m : Measured} → measured (from_utf8 s) ≡ Some m → Said s m.units m.latin
unfolding measured
measured-text s {m} e = go (from_utf8 s) refl e
  where
    go : (d : Decoded) → from_utf8 s ≡ d → measured d ≡ Some m → Said s m.units m.latin
    go (well t) q e = record {
      is-utf8 = rw q;
      units = ap (λ (d : Decoded). length (encode16 (scalars d))) q ∙ cc e;
      fits = ap (λ (d : Decoded). fits_latin1 (scalars d)) q ∙ cc e;
    }
    go ill q e = never (cc)

pub measured-none : (s : List ℕ) → measured (from_utf8 s) ≡ None → from_utf8 s ≡ ill
unfolding measured
measured-none s e = go (from_utf8 s) e
  where
    go : (d : Decoded) → measured d ≡ None → d ≡ ill
    go (well t) e = never (cc)
    go ill e = refl

-- a text has no more units than bytes of UTF-8
units-fewer : (t : List ℕ) → length (encode16 t) ≤ length (utf8 t)
unfolding encode16
units-fewer [] = omega arith
units-fewer (c ∷ t) =
    let l = units-fewer t in
    omega (arith, fewer-units c, length-append (encode_one c) (encode16 t), length-append (utf8_one c) (utf8 t))

pub measured-fits : (s : List ℕ) {m : Measured} → measured (from_utf8 s) ≡ Some m → m.units ≤ length s
measured-fits s e =
    let m = measured-text s e in
    omega (arith, m.units, units-fewer (text_of s), ap length (utf8_encode s m.is-utf8).0)

-- text that fits Latin-1 has one unit for each scalar value, the value itself
pub latin-units : (t : List ℕ) → fits_latin1 t ≡ true → encode16 t ≡ t
unfolding encode16
latin-units [] e = refl
latin-units (c ∷ t) e =
    let p = (and-eq-true_iff (ltb c 0x100) (fits_latin1 t)).0 e in
    rw (one_unit c (omega (arith, ltb-true c 0x100 p.0)), latin-units t p.1)

-- how many bytes the text takes, as Latin-1 and as UTF-16LE
pub latin-length : {s : List ℕ} {n : ℕ} → Said s n true → length (text_of s) ≡ n
latin-length {s} m = sym (ap length (latin-units (text_of s) m.fits)) ∙ m.units

pub wide-length : {s : List ℕ} {n : ℕ} {latin : Bool} → Said s n latin → length (utf16le (text_of s)) ≡ 2 * n
wide-length {s} m = unit_bytes-length (encode16 (text_of s)) ∙ ap (λ (k : ℕ). 2 * k) m.units
