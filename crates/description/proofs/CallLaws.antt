-- What the call accepts and what it refuses: 27 and 28, exactly.
use Rattle.std.specs.Prelude.{◌≡◌, ◌↔◌, ◌⊎◌, Bool, List, [], ◌∷◌, ℕ, ◌^◌, ◌<◌, ltb, length}
use Rattle.std.proofs.Math.Path.{refl}
use Rattle.std.proofs.Common.{sym, ◌∙◌, ap, inl, arith}
use Rattle.std.proofs.Math.Logic.{inr}
use Rattle.std.proofs.Math.Bool.{true, false}
use borrow.Author.Tests.{le-leb, lt-leb, lt-ltb, leb-true, ltb-true, leb-false}
use Rattle.std.proofs.Math.Dec.{leb}
use Rattle.base.specs.Never.{never}
use Rattle.base.specs.NumberLaws.{Bytes}
use Rattle.base.specs.Perm.{All}
use Rattle.base.specs.Reading.{Out, refused, gives, run, run_block}
use Rattle.text.specs.Utf16.{encode16}
use Rattle.decode.specs.ReadLaws.{both}
use Rattle.written.specs.HeaderBytes.{ImportedName, Description, imported_texts, header_size, header_of, longest_name, longest_header, short, writable, described}
use Rattle.zen.specs.Zen.{Read, named, package_block}
use Rattle.zen.specs.declared.tables.Export.{Export}
use Rattle.meaning.specs.Call.{Answer, refused_in, accepted, ◌>>=◌, ◌>>◌, need}
use Rattle.description.specs.Form.{description}
use Rattle.description.specs.FormBytes.{description_bytes}
use Rattle.description.specs.Call.{well_formed, as_described, header_answer}
use Rattle.description.specs.BatchFront.{NameFits}
use Rattle.description.specs.HeaderFront as Front
use Rattle.description.specs.HeaderBack.{Good, starts, few-names, read_for, header_read, described-back}
use Rattle.description.specs.FormLaws.{TextFits, ExportFits, ImportedFits, Fits}
use Rattle.description.proofs.FormLaws.{form_front, form_took}
pub use Rattle.description.specs.CallLaws.{Described, Fitting, Short, Writable}

pub writable-is : (d : Description) → writable d ≡ true → Writable d
unfolding writable
writable-is d e =
    let (p, size) = both _ (leb (header_size d) longest_header) e in
    let (q, imported) = both _ (short (imported_texts d.imported)) p in
    let (r, texts) = both _ (short d.texts) q in
    let (name, exports) = both (ltb d.name (length d.texts)) (named (length d.texts) d.exports) r in
    record { name = ltb-true _ _ name; exports = exports; texts = texts; imported = imported; size = leb-true _ _ size }

pub writable_as : (d : Description) → Writable d → writable d ≡ true
unfolding writable
writable_as d w =
    rw (lt-ltb d.name (length d.texts) w.name, w.exports, w.texts, w.imported, le-leb (header_size d) longest_header w.size)

names-fit : (ts : List (List ℕ)) → All TextFits ts → short ts ≡ true → All NameFits ts
names-fit [] f e = tt
names-fit (t ∷ ts) f e =
    let (l, r) = both (leb (length (encode16 t)) longest_name) (short ts) e in
    (record { well = f.0.well; short = leb-true _ _ l }, names-fit ts f.1 r)

imported-fit : (names : List ImportedName) → All ImportedFits names → All TextFits (imported_texts names) × All Front.NumberFits names
imported-fit [] f = (tt, tt)
imported-fit (i ∷ names) f = let (t, n) = imported-fit names f.1 in ((f.0.text, t), (f.0.number, n))

exports-fit : (n : ℕ) → n < 2 ^ 30 → (es : List Export) → named n es ≡ true → All ExportFits es → All Front.ExportFits es
exports-fit n h [] e f = tt
exports-fit n h (x ∷ es) e f =
    let (l, r) = both (ltb x.index n) (named n es) e in
    let within : x.index < n = ltb-true _ _ l in
    let g = f.0 in
    (record { index = omega arith; number = g.number; outer = g.outer; class = g.class; parent = g.parent; hash = g.hash }, exports-fit n h es r f.1)

pub good : (d : Description) → Fits d → writable d ≡ true → Good d
good d f e =
    let w = writable-is d e in
    let s = starts d in
    let few = few-names (header_size d) d.texts w.size (omega (arith, s.hashes, s.exports, s.imported, s.size)) in
    let (texts, numbers) = imported-fit d.imported f.imported.each in
    record {
      name = w.name;
      named-all = w.exports;
      number = f.number;
      texts = names-fit d.texts f.texts.each w.texts;
      exports = exports-fit (length d.texts) few.0 d.exports w.exports f.exports.each;
      hashes = f.hashes.each;
      imported = names-fit (imported_texts d.imported) texts w.imported;
      numbers = numbers;
      size = w.size;
    }

asked : (t : Bool) (d c : Description) → (need t 27 0 >> accepted c) ≡ accepted d → (t ≡ true) × (c ≡ d)
asked true d c e = (refl, cc)
asked false d c e = never (cc)

pub described-by : (s : List ℕ) (d : Description) → Bytes s → as_described s ≡ accepted d → Described s d
unfolding as_described
described-by s d b e = go (run description 0 s) refl e
  where
    go : (o : Out Description) → run description 0 s ≡ o → (well_formed o >>= λ d. need (writable d) 27 0 >> accepted d) ≡ accepted d → Described s d
    go (refused q) f e = never (cc)
    go (gives c) f e =
        let (w, same) = asked (writable c) d c e in
        let (is, housed) = form_took c s b f in
        rw (← same) (record { is = is; housed = housed; writable_too = w })

-- and the other way round
pub described_as : (s : List ℕ) (d : Description) → Described s d → as_described s ≡ accepted d
unfolding as_described
described_as s d h = rw (h.is, form_front d h.housed, h.writable_too)

refused_27 : (s : List ℕ) (q j : ℕ) → as_described s ≡ refused_in q j → (q ≡ 27) × (j ≡ 0)
unfolding as_described
refused_27 s q j e = go (run description 0 s) e
  where
    last : (t : Bool) (c : Description) → (need t 27 0 >> accepted c) ≡ refused_in q j → (q ≡ 27) × (j ≡ 0)
    last true c e = never (cc)
    last false c e = (cc, cc)

    go : (o : Out Description) → (well_formed o >>= λ d. need (writable d) 27 0 >> accepted d) ≡ refused_in q j → (q ≡ 27) × (j ≡ 0)
    go (refused p) e = (cc, cc)
    go (gives c) e = last (writable c) c e

-- 27 EXACTLY: no description that can be written has these bytes
pub malformed : (s : List ℕ) → Bytes s → (as_described s ≡ refused_in 27 0) ↔ ((d : Description) → Described s d → ⊥)
malformed s b = (λ e d h. let x : refused_in 27 0 ≡ accepted d = sym e ∙ described_as s d h in never (cc), λ none. go (as_described s) refl none)
  where
    go : (a : Answer Description) → as_described s ≡ a → ((d : Description) → Described s d → ⊥) → as_described s ≡ refused_in 27 0
    go (refused_in q j) e none = let (x, y) = refused_27 s q j e in e ∙ rw (x, y)
    go (accepted d) e none = absurd (none d (described-by s d b e))

module _ (s : List ℕ) (room : ℕ) where
  pub accepted-by : (header : List ℕ) → header_answer s room ≡ accepted header → Fitting s room header
  unfolding header_answer
  accepted-by header e = go (as_described s) refl e
    where
      last : (d : Description) → as_described s ≡ accepted d → (t : Bool) → leb (length (header_of d)) room ≡ t
          → (need t 28 0 >> accepted (header_of d)) ≡ accepted header → Fitting s room header
      last d f true g e = record { what = d; described = f; fits = leb-true _ _ g; is = cc }
      last d f false g e = never (cc)

      go : (a : Answer Description) → as_described s ≡ a → (a >>= λ d. need (leb (length (header_of d)) room) 28 0 >> accepted (header_of d)) ≡ accepted header
          → Fitting s room header
      go (refused_in q j) f e = never (cc)
      go (accepted d) f e = last d f (leb (length (header_of d)) room) refl e

  pub refused-by : (q j : ℕ) → header_answer s room ≡ refused_in q j → (j ≡ 0) × (((q ≡ 27) × (as_described s ≡ refused_in 27 0)) ⊎ ((q ≡ 28) × Short s room))
  unfolding header_answer
  refused-by q j e = go (as_described s) refl e
    where
      last : (d : Description) → as_described s ≡ accepted d → (t : Bool) → leb (length (header_of d)) room ≡ t
          → (need t 28 0 >> accepted (header_of d)) ≡ refused_in q j → (j ≡ 0) × (((q ≡ 27) × (as_described s ≡ refused_in 27 0)) ⊎ ((q ≡ 28) × Short s room))
      last d f true g e = never (cc)
      last d f false g e = (cc, inr (cc, record { what = d; described = f; short = leb-false _ _ g }))

      go : (a : Answer Description) → as_described s ≡ a → (a >>= λ d. need (leb (length (header_of d)) room) 28 0 >> accepted (header_of d)) ≡ refused_in q j
          → (j ≡ 0) × (((q ≡ 27) × (as_described s ≡ refused_in 27 0)) ⊎ ((q ≡ 28) × Short s room))
      go (refused_in p i) f e =
          let (x, y) = refused_27 s p i f in
          let u : p ≡ q = cc in
          let v : i ≡ j = cc in
          (sym v ∙ y, inl (sym u ∙ x, f ∙ rw (x, y)))
      go (accepted d) f e = last d f (leb (length (header_of d)) room) refl e

  -- and the other way round
  pub accepted_as : (header : List ℕ) → Fitting s room header → header_answer s room ≡ accepted header
  unfolding header_answer
  accepted_as header f = rw (f.described, le-leb (length (header_of f.what)) room f.fits, f.is)

  pub refused_27_as : as_described s ≡ refused_in 27 0 → header_answer s room ≡ refused_in 27 0
  unfolding header_answer
  refused_27_as e = rw e

  pub refused_28_as : Short s room → header_answer s room ≡ refused_in 28 0
  unfolding header_answer
  refused_28_as f = rw (f.described, lt-leb (length (header_of f.what)) room f.short)

-- ---- reading back

-- "Reading back, texts and numbers apart, gives the description that went in"
pub back : (s : List ℕ) (d : Description) → Described s d → (run_block package_block (header_of d) ≡ gives (read_for d)) × (described (read_for d) ≡ d)
back s d h = (header_read d (good d h.housed.fits h.writable_too), described-back d)

-- "Two accepted descriptions that differ give different bytes"
pub injective : (s₁ s₂ : List ℕ) (d₁ d₂ : Description) → Described s₁ d₁ → Described s₂ d₂ → header_of d₁ ≡ header_of d₂ → s₁ ≡ s₂
injective s₁ s₂ d₁ d₂ h₁ h₂ e =
    let (r₁, b₁) = back s₁ d₁ h₁ in
    let (r₂, b₂) = back s₂ d₂ h₂ in
    let g : gives (read_for d₁) ≡ gives (read_for d₂) = sym r₁ ∙ (ap (run_block package_block) e ∙ r₂) in
    let same : d₁ ≡ d₂ = sym b₁ ∙ (ap described (given g) ∙ b₂) in
    h₁.is ∙ (ap description_bytes same ∙ sym h₂.is)
  where
    given : {x y : Read} → gives x ≡ gives y → x ≡ y
    given e = cc
