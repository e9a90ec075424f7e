-- Which bytes are well-formed, by position, and what they describe: THE LAWS that code is proved by.
use Rattle.std.specs.Prelude.{◌≡◌, Bool, ◌&&◌, List, ℕ, zero, suc, ◌+◌, ◌-◌, ◌≤◌, eqb}
use Rattle.std.proofs.Math.Path.{refl}
use Rattle.std.proofs.Common.{◌∙◌, ap, arith}
use Rattle.std.proofs.Math.Bool.{true, false}
use borrow.Author.Tests.{le-leb, eq-eqb, leb-true, eqb-true}
use Rattle.std.proofs.Math.Dec.{leb}
use Rattle.std.proofs.Math.ListN.{length}
use Rattle.base.specs.Choose.{pick}
use Rattle.base.specs.Never.{never}
use Rattle.base.specs.Number.{be_at}
use Rattle.base.specs.Reading.{refused, gives, run}
use Rattle.base.specs.ReadingLaws.{run-walk, out}
use Rattle.text.specs.Utf16.{is_well}
use Rattle.text.specs.Utf8.{from_utf8}
use Rattle.decode.specs.ReadLaws.{both}
use Rattle.written.specs.HeaderBytes.{Description, writable}
use Rattle.meaning.specs.Call.{refused_in, accepted, need, ◌>>=◌ as ◌>>=A◌, ◌>>◌ as ◌>>A◌}
use Rattle.description.specs.Form.{description_version, imported, description}
use Rattle.description.specs.Call.{well_formed, as_described}
use Rattle.header.specs.Places.{utf8_at, next_text, text_well, text_place, texts_well}
use Rattle.header.specs.Places.{text_count, exports_place, hashes_place, imported_place, imported_count, form_end, description_at, in_form}
use Rattle.header.specs.PlaceLaws.{tests, description-told}

pub record InForm (s : List ℕ) : Type 0 where
  pub long : 17 ≤ length s
  pub first : be_at 4 s 0 + 4 ≡ length s
  pub version : be_at 1 s 4 ≡ description_version
  pub texts : texts_well 0 s 17 (text_count s) ≡ true
  pub exports : exports_place s + 4 ≤ length s
  pub hashes : hashes_place s + 4 ≤ length s
  pub imported : imported_place s + 4 ≤ length s
  pub names : texts_well 4 s (imported_place s + 4) (imported_count s) ≡ true
  pub ends : form_end s ≡ length s

-- texts that are there end within the bytes
pub texts-within : (more : ℕ) (s : List ℕ) (n at : ℕ) → at ≤ length s → texts_well more s at n ≡ true → text_place more s at n ≤ length s
unfolding texts_well text_place text_well
texts-within more s zero at h e = h
texts-within more s (suc n) at h e =
    let (a, b) = both (leb (at + 4) (length s) && leb (next_text more s at) (length s) && is_well (from_utf8 (utf8_at s at))) _ e in
    let (c, d) = both (leb (at + 4) (length s) && leb (next_text more s at) (length s)) _ a in
    let (x, y) = both (leb (at + 4) (length s)) _ c in
    texts-within more s n (next_text more s at) (leb-true (next_text more s at) (length s) y) b

module _ (s : List ℕ) where
  pub in_form_lem : in_form s ≡ true → InForm s
  unfolding in_form
  in_form_lem e =
      let (e₁, ends) = both _ (eqb (form_end s) (length s)) e in
      let (e₂, names) = both _ (texts_well 4 s (imported_place s + 4) (imported_count s)) e₁ in
      let (e₃, imported) = both _ (leb (imported_place s + 4) (length s)) e₂ in
      let (e₄, hashes) = both _ (leb (hashes_place s + 4) (length s)) e₃ in
      let (e₅, exports) = both _ (leb (exports_place s + 4) (length s)) e₄ in
      let (e₆, texts) = both _ (texts_well 0 s 17 (text_count s)) e₅ in
      let (e₇, version) = both _ (eqb (be_at 1 s 4) description_version) e₆ in
      let (long, first) = both (leb 17 (length s)) (eqb (be_at 4 s 0 + 4) (length s)) e₇ in
      record {
        long = leb-true _ _ long;
        first = eqb-true _ _ first;
        version = eqb-true _ _ version;
        texts = texts;
        exports = leb-true _ _ exports;
        hashes = leb-true _ _ hashes;
        imported = leb-true _ _ imported;
        names = names;
        ends = eqb-true _ _ ends;
      }

  pub form_in : InForm s → in_form s ≡ true
  unfolding in_form
  form_in f =
      rw (
        le-leb 17 (length s) f.long,
        eq-eqb (be_at 4 s 0 + 4) (length s) f.first,
        eq-eqb (be_at 1 s 4) description_version f.version,
        f.texts,
        le-leb (exports_place s + 4) (length s) f.exports,
        le-leb (hashes_place s + 4) (length s) f.hashes,
        le-leb (imported_place s + 4) (length s) f.imported,
        f.names,
        eq-eqb (form_end s) (length s) f.ends,
      )

  abbrev all_tests : Bool
  all_tests = leb 4 (length s) && (eqb (be_at 4 s 0) (length s - 4) && (leb 5 (length s) && (eqb (be_at 1 s 4) description_version && tests s)))

  tests_in : InForm s → all_tests ≡ true
  tests_in f =
      rw (
        le-leb 4 (length s) (omega (arith, f.long)),
        eq-eqb (be_at 4 s 0) (length s - 4) (omega (arith, f.first)),
        le-leb 5 (length s) (omega (arith, f.long)),
        eq-eqb (be_at 1 s 4) description_version f.version,
        le-leb 9 (length s) (omega (arith, f.long)),
        le-leb 13 (length s) (omega (arith, f.long)),
        le-leb 17 (length s) f.long,
        f.texts,
        le-leb (exports_place s + 4) (length s) f.exports,
        le-leb (hashes_place s) (length s) (omega (arith, f.hashes)),
        le-leb (hashes_place s + 4) (length s) f.hashes,
        le-leb (imported_place s) (length s) (omega (arith, f.imported)),
        le-leb (imported_place s + 4) (length s) f.imported,
        f.names,
        eq-eqb (length s - form_end s) 0 (omega (arith, f.ends)),
      )

  in_tests : all_tests ≡ true → InForm s
  unfolding form_end
  in_tests e =
      let (four, e₁) = both (leb 4 (length s)) _ e in
      let (first, e₂) = both (eqb (be_at 4 s 0) (length s - 4)) _ e₁ in
      let (five, e₃) = both (leb 5 (length s)) _ e₂ in
      let (version, e₄) = both (eqb (be_at 1 s 4) description_version) _ e₃ in
      let (nine, e₅) = both (leb 9 (length s)) _ e₄ in
      let (thirteen, e₆) = both (leb 13 (length s)) _ e₅ in
      let (texts, e₇) = both (leb 17 (length s) && texts_well 0 s 17 (text_count s)) _ e₆ in
      let (long, well) = both (leb 17 (length s)) _ texts in
      let (exports, e₈) = both (leb (exports_place s + 4) (length s) && leb (hashes_place s) (length s)) _ e₇ in
      let (hashes, e₉) = both (leb (hashes_place s + 4) (length s) && leb (imported_place s) (length s)) _ e₈ in
      let (imported, left) = both (leb (imported_place s + 4) (length s) && texts_well 4 s (imported_place s + 4) (imported_count s)) _ e₉ in
      let (starts, names) = both (leb (imported_place s + 4) (length s)) _ imported in
      let long₁ : 17 ≤ length s = leb-true _ _ long in
      let first₁ : be_at 4 s 0 ≡ length s - 4 = eqb-true _ _ first in
      let starts₁ : imported_place s + 4 ≤ length s = leb-true _ _ starts in
      let within : text_place 4 s (imported_place s + 4) (imported_count s) ≤ length s = texts-within 4 s (imported_count s) (imported_place s + 4) starts₁ names in
      let left₁ : length s - text_place 4 s (imported_place s + 4) (imported_count s) ≡ 0 = eqb-true _ _ left in
      record {
        long = long₁;
        first = omega arith;
        version = eqb-true _ _ version;
        texts = well;
        exports = leb-true _ _ (both (leb (exports_place s + 4) (length s)) _ exports).0;
        hashes = leb-true _ _ (both (leb (hashes_place s + 4) (length s)) _ hashes).0;
        imported = starts₁;
        names = names;
        ends = omega arith;
      }

  -- THE LAWS: well-formed bytes describe what stands at the places, and others are refused
  pub form_there : in_form s ≡ true → run description 0 s ≡ gives (description_at s)
  form_there e = run-walk description s 0 (omega arith) ∙ ap out ((description-told s).there (tests_in (in_form_lem e)))

  pub form_broken : in_form s ≡ false → (q : ℕ) × (run description 0 s ≡ refused q)
  form_broken e = go all_tests refl
    where
      go : (t : Bool) → all_tests ≡ t → (q : ℕ) × (run description 0 s ≡ refused q)
      go true f = let yes : in_form s ≡ true = form_in (in_tests f) in never (cc)
      go false f = let (q, h) = (description-told s).broken f in (q, run-walk description s 0 (omega arith) ∙ ap out h)

  -- so what is described, with every 27
  pub described-at : as_described s ≡ pick (in_form s && writable (description_at s)) (accepted (description_at s)) (refused_in 27 0)
  unfolding as_described
  described-at = go (in_form s) refl
    where
      last : (t : Bool) (d : Description) → (need t 27 0 >>A accepted d) ≡ pick t (accepted d) (refused_in 27 0)
      last true d = refl
      last false d = refl

      go : (t : Bool) → in_form s ≡ t
          → (well_formed (run description 0 s) >>=A λ d. need (writable d) 27 0 >>A accepted d)
          ≡ pick (t && writable (description_at s)) (accepted (description_at s)) (refused_in 27 0)
      go true e = rw (form_there e) (last (writable (description_at s)) (description_at s))
      go false e = let (q, h) = form_broken e in rw h
