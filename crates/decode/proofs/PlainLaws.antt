-- Bytes that are all ASCII: they are the text that they mean. Assumes nothing.
use Rattle.std.specs.Prelude.{◌≡◌, refl, Bool, true, List, [], ◌∷◌, ℕ, ◌≤◌, ltb, length}
use Rattle.std.proofs.Math.Path.{sym}
use Rattle.std.proofs.Common.{ap, ◌∙◌, inl, arith, ltb-true, lt-ltb}
use Rattle.std.proofs.Math.Bool.{and-eq-true_iff}
use Rattle.text.specs.Affix.{all_ascii}
use Rattle.base.specs.Output.{Wrote}
use Rattle.base.specs.OutputLaws.{wrote_as}
use Rattle.text.specs.Utf16.{well, scalars, Scalars}
use Rattle.text.specs.Utf8.{from_utf8}
use Rattle.text.specs.Utf8Laws.{utf8-ascii, utf8_decode}
use Rattle.decode.specs.Measure.{text_of, fits_latin1, measured, a_text}
use Rattle.decode.proofs.MeasureLaws.{latin-units}

plain-scalars : (s : List ℕ) → all_ascii s ≡ true → Scalars s
plain-scalars [] e = tt
plain-scalars (c ∷ s) e =
    let p = (and-eq-true_iff (ltb c 128) (all_ascii s)).0 e in
    (inl (omega (arith, ltb-true c 128 p.0)), plain-scalars s p.1)

plain-latin : (s : List ℕ) → all_ascii s ≡ true → fits_latin1 s ≡ true
plain-latin [] e = refl
plain-latin (c ∷ s) e =
    let p = (and-eq-true_iff (ltb c 128) (all_ascii s)).0 e in
    rw (lt-ltb c 0x100 (omega (arith, ltb-true c 128 p.0)), plain-latin s p.1)

pub plain-text : (s : List ℕ) → all_ascii s ≡ true → from_utf8 s ≡ well s
plain-text s e = ap from_utf8 (sym (utf8-ascii s e)) ∙ utf8_decode s (plain-scalars s e)

-- what the code's test says
module _ (s : List ℕ) (b : Bool) (is : b ≡ all_ascii s) (yes-ascii : b ≡ true) where
  pub plain-measured : a_text (length s) true ≡ measured (from_utf8 s)
  unfolding measured
  plain-measured =
      let e = sym is ∙ yes-ascii in
      rw (plain-text s e, plain-latin s e, latin-units s (plain-latin s e))

  text-is : text_of s ≡ s
  text-is = ap scalars (plain-text s (sym is ∙ yes-ascii))

  pub plain-room : (room : ℕ) → length (text_of s) ≤ room → length s ≤ room
  plain-room room h = omega (arith, ap length text-is)

  pub plain-wrote : {out now : List ℕ} → Wrote out s now (length s) → Wrote out (text_of s) now (length s)
  plain-wrote w = wrote_as w (sym text-is)
