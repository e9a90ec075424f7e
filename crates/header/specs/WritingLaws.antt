-- Laws of what is written, in the parts that the code writes. Assumes nothing.
use Rattle.std.specs.Prelude.{◌≡◌, Bool, true, false, cond, ℕ, zero, suc, ◌+◌, ◌*◌, ◌-◌, ◌/◌, ◌%◌, ◌^◌, ◌≤◌, ◌<◌, replicate}
use Rattle.std.proofs.Math.Path.{refl, sym, ap}
use Rattle.std.proofs.Common.{◌∙◌, div-one, add-one, arith}
use mathlib.Core.List.{List, [], ◌∷◌, ◌++◌, append_assoc, append-nil}
use Rattle.std.proofs.Math.ListN.{length}
use Rattle.base.specs.Find.{flat}
use Rattle.base.specs.Number.{be_at, be_bytes, le_bytes}
use Rattle.base.specs.Output.{Wrote}
use Rattle.base.specs.OutputLaws.{wrote_as}
use Rattle.text.specs.Affix.{all_ascii}
use Rattle.text.specs.Utf16.{is_well, scalars, encode16, utf16le}
use Rattle.text.specs.Utf8.{from_utf8}
use Rattle.decode.specs.Measure.{text_of, fits_latin1}
use Rattle.decode.specs.MeasureLaws.{Said}
use Rattle.decode.proofs.MeasureLaws.{measured-text}
use Rattle.decode.proofs.PlainLaws.{plain-text, plain-measured}
use Rattle.written.specs.BatchBytes.{le4, le8, head_bytes, string_bytes, some_bytes, batch_bytes}
use Rattle.written.specs.HeaderBytes.{Description, export_bytes, imported_bytes, header_size, offsets_of, summary_bytes, content_bytes}
use Rattle.header.specs.Places.{text_end, next_text, texts_from, export_in, imported_at, imported_from, imported_place, imported_count, description_at}
use Rattle.base.specs.ReadingRows.{cells}
use Rattle.header.specs.TextLoops.{texts-count, imported_texts_lem, imported-next, imported-none, cells-next, cells-none}
use Rattle.header.specs.Parts.{parts_of, regions_of, string_size, string_units, front_bytes, names_bytes, summary_words, tables_bytes, strings_from}
use Rattle.header.specs.PartsLaws.{string_size_lem}
use Rattle.header.specs.RegionLaws.{number_bytes, starts}
use Rattle.header.specs.declared.check.Regions.{Regions}

-- ---- lists

pub zeros-more : (i : ℕ) → replicate {A = ℕ} (i + 1) 0 ≡ replicate i 0 ++ 0 ∷ []
zeros-more i = rw (add-one i) (go i)
  where
    go : (i : ℕ) → replicate {A = ℕ} (suc i) 0 ≡ replicate i 0 ++ 0 ∷ []
    go zero = refl
    go (suc i) = ap (λ (l : List ℕ). 0 ∷ l) (go i)

-- what one element more brings
pub each_next : {A : Type 0} (f : A → List ℕ) {l xs : List A} {x : A} → l ≡ x ∷ xs → flat f l ≡ f x ++ flat f xs
each_next f e = rw e

pub each_none : {A : Type 0} (f : A → List ℕ) {l : List A} → l ≡ [] → flat f l ≡ []
each_none f e = rw e

-- ---- a name's header

two_bytes : (x : ℕ) → be_bytes 2 x ≡ x / 256 % 256 ∷ x % 256 ∷ []
unfolding be_bytes
two_bytes x = rw (div-one x)

pub head-is : {u : List ℕ} {n : ℕ} {latin : Bool} → Said u n latin → head_bytes (text_of u) ≡ be_bytes 2 (cond latin 0 0x8000 + n)
unfolding head_bytes
head-is m = rw (m.fits, m.units)

-- ---- an export: nine numbers of 8 bytes

pub joined : (i n : ℕ) → i < 2 ^ 32 → le_bytes 8 (i + n * 4294967296) ≡ le_bytes 4 i ++ le_bytes 4 n
unfolding le_bytes
joined i n h =
    let m₀ : (i + n * 4294967296) % 256 ≡ i % 256 = omega arith in
    let z₁ : (i + n * 4294967296) / 256 ≡ i / 256 + n * 16777216 = omega arith in
    let m₁ : (i / 256 + n * 16777216) % 256 ≡ i / 256 % 256 = omega arith in
    let z₂ : (i / 256 + n * 16777216) / 256 ≡ i / 256 / 256 + n * 65536 = omega arith in
    let m₂ : (i / 256 / 256 + n * 65536) % 256 ≡ i / 256 / 256 % 256 = omega arith in
    let z₃ : (i / 256 / 256 + n * 65536) / 256 ≡ i / 256 / 256 / 256 + n * 256 = omega arith in
    let m₃ : (i / 256 / 256 / 256 + n * 256) % 256 ≡ i / 256 / 256 / 256 % 256 = omega arith in
    let z₄ : (i / 256 / 256 / 256 + n * 256) / 256 ≡ n = omega arith in
    rw (m₀, z₁, m₁, z₂, m₂, z₃, m₃, z₄)

nine : (a b n o c p t h z : List ℕ) → a ++ b ++ n ++ o ++ c ++ p ++ t ++ h ++ z ≡ a ++ (b ++ (n ++ (o ++ (c ++ (p ++ (t ++ (h ++ (z ++ []))))))))
nine a b n o c p t h z = simp (append_assoc, append-nil)

pub export_is : (s : List ℕ) (at : ℕ) → be_at 4 s at < 2 ^ 32
    → export_bytes (export_in s at)
    ≡ flat (le_bytes 8)
    (0 ∷ 0 ∷ (be_at 4 s at + be_at 4 s (at + 4) * 4294967296) ∷ be_at 8 s (at + 8) ∷ be_at 8 s (at + 16) ∷ be_at 8 s (at + 24) ∷ 0 ∷ be_at 8 s (at + 32) ∷ 0 ∷ [])
unfolding export_bytes export_in
export_is s at h =
    rw (joined (be_at 4 s at) (be_at 4 s (at + 4)) h)
    (nine (le8 0) (le8 0) (le4 (be_at 4 s at) ++ le4 (be_at 4 s (at + 4))) (le8 (be_at 8 s (at + 8))) (le8 (be_at 8 s (at + 16))) (le8 (be_at 8 s (at + 24))) (le8 0)
    (le8 (be_at 8 s (at + 32))) (le8 0))

-- the same from numbers that were read
pub export-made : (s : List ℕ) (at i n o c p h : ℕ) → i < 2 ^ 32 → i ≡ be_at 4 s at → n ≡ be_at 4 s (at + 4) → o ≡ be_at 8 s (at + 8)
    → c ≡ be_at 8 s (at + 16) → p ≡ be_at 8 s (at + 24) → h ≡ be_at 8 s (at + 32)
    → flat (le_bytes 8) (0 ∷ 0 ∷ (i + n * 4294967296) ∷ o ∷ c ∷ p ∷ 0 ∷ h ∷ 0 ∷ []) ≡ export_bytes (export_in s at)
export-made s at i n o c p h f ei en eo ec ep eh = rw (ei, en, eo, ec, ep, eh) (sym (export_is s at (rw ei at f)))

-- ---- a batch

pub some-parts : (ts : List (List ℕ)) → some_bytes ts ≡ front_bytes (length ts) (length (flat string_bytes ts)) ++ names_bytes ts
unfolding some_bytes front_bytes names_bytes
some-parts ts = simp append_assoc

module _ (more : ℕ) (s : List ℕ) (at n : ℕ) where
  pub batch-none : n ≡ 0 → batch_bytes (texts_from more s at n) ≡ le_bytes 4 0
  unfolding batch_bytes texts_from
  batch-none e = rw e

  pub batch-some : (n ≡ 0 → ⊥) → batch_bytes (texts_from more s at n) ≡ front_bytes n (strings_from more s at n) ++ names_bytes (texts_from more s at n)
  unfolding strings_from batch_bytes
  batch-some h =
      go (texts_from more s at n) refl ∙ some-parts (texts_from more s at n)
      ∙ ap (λ (k : ℕ). front_bytes k (length (flat string_bytes (texts_from more s at n))) ++ names_bytes (texts_from more s at n)) (texts-count more s n at)
    where
      go : (ts : List (List ℕ)) → texts_from more s at n ≡ ts → batch_bytes ts ≡ some_bytes ts
      go [] e = absurd (h (sym (texts-count more s n at) ∙ ap length e))
      go (t ∷ ts) e = refl

  pub batch-made : (strings : ℕ) → strings ≡ strings_from more s at n → (n ≡ 0 → ⊥) → front_bytes n strings ++ names_bytes (texts_from more s at n)
      ≡ batch_bytes (texts_from more s at n)
  batch-made strings e h = rw e (sym (batch-some h))

  pub names-made : replicate (8 * n) 0 ++ (flat head_bytes (texts_from more s at n) ++ flat string_bytes (texts_from more s at n))
      ≡ names_bytes (texts_from more s at n)
  unfolding names_bytes
  names-made = rw (
    texts-count more s n at,
    append_assoc (replicate {A = ℕ} (8 * n) 0) (flat head_bytes (texts_from more s at n)) (flat string_bytes (texts_from more s at n)),
  )

pub front_length : (n k : ℕ) → length (front_bytes n k) ≡ 16
unfolding front_bytes le_bytes
front_length n k = refl

-- ---- the header

pub content-parts : (d : Description) → content_bytes d ≡ batch_bytes d.texts ++ tables_bytes d ++ imported_bytes d.imported
unfolding content_bytes tables_bytes
content-parts d = simp append_assoc

nested : (a b c d e f r : List ℕ) → a ++ b ++ (c ++ d) ++ e ++ f ++ r ≡ a ++ (b ++ (c ++ (d ++ (e ++ (f ++ r)))))
nested a b c d e f r = simp append_assoc

summary_words_lem : (size : ℕ) (offsets : List ℕ) (d : Description) → summary_bytes size offsets d ≡ flat (le_bytes 4)
    (0 ∷ size ∷ d.name ∷ d.number ∷ 0 ∷ 0 ∷ offsets)
unfolding summary_bytes
summary_words_lem size offsets d = nested (le4 0) (le4 size) (le4 d.name) (le4 d.number) (le4 0) (le4 0) (flat le4 offsets)

module _ (s : List ℕ) where
  words_are : let d = description_at s in 0 ∷ header_size d ∷ d.name ∷ d.number ∷ 0 ∷ 0 ∷ offsets_of d ≡ summary_words s (regions_of (parts_of s))
  unfolding offsets_of summary_words description_at
  words_are = let t = starts s in sym (rw (t.size, t.hashes, t.exports, t.imported))

  pub summary-is : let d = description_at s in summary_bytes (header_size d) (offsets_of d) d ≡ flat (le_bytes 4) (summary_words s (regions_of (parts_of s)))
  summary-is = let d = description_at s in summary_words_lem (header_size d) (offsets_of d) d ∙ ap (flat (le_bytes 4)) words_are

  pub imported-parts : let at = imported_place s + 4 in let n = imported_count s in
      imported_bytes (description_at s).imported ≡ batch_bytes (texts_from 4 s at n) ++ flat number_bytes (imported_from s at n)
  unfolding imported_bytes description_at
  imported-parts = rw (imported_texts_lem s (imported_count s) (imported_place s + 4))

pub words-length : (s : List ℕ) (g : Regions) → length (flat (le_bytes 4) (summary_words s g)) ≡ 52
unfolding summary_words le_bytes
words-length s g = refl

-- ---- a name's string

pub string_latin : (t : List ℕ) → fits_latin1 t ≡ true → string_bytes t ≡ t
unfolding string_bytes
string_latin t e = rw e

pub string_wide : (t : List ℕ) → fits_latin1 t ≡ false → string_bytes t ≡ utf16le t
unfolding string_bytes
string_wide t e = rw e

-- ASCII, as the code's test says
module _ (s : List ℕ) (b : Bool) (is : b ≡ all_ascii s) (yes : b ≡ true) where
  plain-latin : fits_latin1 (text_of s) ≡ true
  plain-latin = (measured-text s (sym (plain-measured s b is yes))).fits

  string_plain : string_bytes (text_of s) ≡ s
  string_plain = string_latin (text_of s) plain-latin ∙ ap scalars (plain-text s (sym is ∙ yes))

  pub plain-room : (room : ℕ) → length (string_bytes (text_of s)) ≤ room → length s ≤ room
  plain-room room h = omega (arith, ap length string_plain)

  pub plain-put : {out now : List ℕ} → Wrote out s now (length s) → Wrote out (string_bytes (text_of s)) now (length s) × (true ≡ fits_latin1 (text_of s))
  plain-put w = (wrote_as w (sym string_plain), sym plain-latin)

-- its units, from how many bytes it takes
units-back : (n : ℕ) (latin : Bool) → string_units (string_size n latin) latin ≡ n
units-back n true = refl
units-back n false = omega arith

pub string_said : (u : List ℕ) (size : ℕ) (latin : Bool) → is_well (from_utf8 u) ≡ true → size ≡ length (string_bytes (text_of u))
    → latin ≡ fits_latin1 (text_of u) → Said u (string_units size latin) latin
string_said u size latin w e l =
    let m : Said u (length (encode16 (text_of u))) latin = record { is-utf8 = w; units = refl; fits = sym l } in
    record { is-utf8 = w; units = sym (rw (e, string_size_lem m) (units-back (length (encode16 (text_of u))) latin)); fits = sym l }

-- ---- a turn of a loop over imported names, over records of one size

pub number-turn : (s : List ℕ) (at n : ℕ) → 0 < n
    → flat number_bytes (imported_from s at n) ≡ le_bytes 4 (be_at 4 s (text_end s at)) ++ flat number_bytes (imported_from s (next_text 4 s at) (n - 1))
unfolding imported_at
number-turn s at n h = each_next number_bytes (imported-next s n at h)

pub number-last : (s : List ℕ) (at n : ℕ) → n ≤ 0 → flat number_bytes (imported_from s at n) ≡ []
number-last s at n h = each_none number_bytes (imported-none s n at h)

module _ {A : Type 0} (g : A → List ℕ) (f : ℕ → A) (size at n : ℕ) where
  pub cell-turn : 0 < n → flat g (cells f size at n) ≡ g (f at) ++ flat g (cells f size (at + size) (n - 1))
  cell-turn h = each_next g (cells-next f size n at h)

  pub cell-last : n ≤ 0 → flat g (cells f size at n) ≡ []
  cell-last h = each_none g (cells-none f size n at h)
