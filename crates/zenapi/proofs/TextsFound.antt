-- Texts that are looked for: where they stand, and whether they have room. Assumes nothing.
use Rattle.std.specs.Prelude.{Err, Ok, Some, None}
use mathlib.Core.Path.{◌≡◌, refl, ◌∙◌}
use mathlib.Core.Bool.{true, false}
use mathlib.Core.List.{List, [], ◌∷◌, append-nil}
use Prim.Native.Nat.{ℕ, zero, suc, ◌≤◌, ◌<◌}
use native.Mathlib.Omega.{arith}
use borrow.Author.Tests.{lt-ltb, le-ltb, le-leb, lt-leb}
use lib.ListN.{length, take, get_or, get_or-eq_default}
use Rattle.text.specs.Name.{base, rendered}
use Rattle.base.specs.NumberLaws.{Bytes}
use Rattle.base.specs.Output.{Wrote}
use Rattle.base.specs.Reading.{refused}
use Rattle.text.specs.Utf8.{utf8}
use Rattle.batch.specs.Holds.{Holds}
use Rattle.batch.specs.Places.{place_at, part_at}
use Rattle.batch.specs.declared.places.Place.{Place}
use Rattle.zen.specs.Answers.{answer, names_of, imported_of, numbers_of}
use Rattle.zen.proofs.PackageLaws.{rejected-read, name-count, imported_count_lem, name-text, imported-text, imported-rendered}
use Rattle.zen.specs.declared.zen.Layout.{Layout}
use Rattle.zenapi.specs.Answers.{package_in, none}
use Rattle.zenapi.specs.Texts.{text_count, text_at, fits, text_answer, text_after, Found, Stands}

-- ---- where a text stands

refused-count : (q which : ℕ) → text_count (refused q) which ≡ 0
unfolding text_count names_of imported_of
refused-count q zero = refl
refused-count q (suc zero) = refl
refused-count q (suc (suc k)) = refl

own : {b : List ℕ} {p : Place} {t : List ℕ} → Holds b p t → Holds b p (base p.wide (part_at b p))
own d = rw d.text d

module _ (b : List ℕ) (i : ℕ) where
  pub no_text : (q which : ℕ) → answer (package_in b) ≡ Err q → Stands b which i None
  unfolding Stands
  no_text q which d = rw (rejected-read b q d, refused-count q which) (omega arith)

  pub no_kind : (which : ℕ) → 2 ≤ which → Stands b which i None
  unfolding Stands text_count
  no_kind which h = rw (get_or-eq_default (length (names_of (package_in b)) ∷ length (imported_of (package_in b)) ∷ []) 0 h) (omega arith)

  module _ (l : Layout) (a : answer (package_in b) ≡ Ok l) where
    pub no_base : l.names.count ≤ i → Stands b 0 i None
    unfolding Stands text_count
    no_base h = rw (name-count b l a) h

    pub no_imported : l.imported.count ≤ i → Stands b 1 i None
    unfolding Stands text_count
    no_imported h = rw (imported_count_lem b l a) h

    module _ (y : Bytes b) (p : Place) where
      pub base_there : i < l.names.count → p ≡ place_at (take l.size b) l.names i → Stands b 0 i (Some (record { place = p; number = 0 }))
      unfolding Stands text_count text_at
      base_there h e =
          let d = name-text b l a y i p h e in
          record { here = rw (name-count b l a) h; base = own d; text = append-nil _ ∙ d.text }

      pub imported-there : (n : ℕ) → i < l.imported.count → p ≡ place_at (take l.size b) l.imported i → n ≡ get_or (numbers_of (package_in b)) i 0
          → Stands b 1 i (Some (record { place = p; number = n }))
      unfolding Stands text_count text_at
      imported-there n h e q =
          record { here = rw (imported_count_lem b l a) h; base = own (imported-text b l a y i p h e); text = rw q (imported-rendered b l a y p i h e) }

-- what is found
pub there : {b : List ℕ} {which i : ℕ} {p : Place} {n : ℕ} → Stands b which i (Some (record { place = p; number = n })) → Found b which i p n
unfolding Stands
there s = s

-- ---- whether it has room

module _ (old b : List ℕ) (which i : ℕ) where
  unfit : fits (length old) (package_in b) which i ≡ false → (none ≡ text_answer (length old) (package_in b) which i) × (old ≡ text_after old (package_in b) which i)
  unfolding text_answer text_after
  unfit e = (rw e, rw e)

  pub put-missing : Stands b which i None → (none ≡ text_answer (length old) (package_in b) which i) × (old ≡ text_after old (package_in b) which i)
  unfolding fits Stands
  put-missing s = unfit (rw (le-ltb i (text_count (package_in b) which) s))

  module _ {p : Place} {n : ℕ} (f : Found b which i p n) where
    pub put-short : length old < length (utf8 (rendered p.wide (part_at b p) n))
        → (none ≡ text_answer (length old) (package_in b) which i) × (old ≡ text_after old (package_in b) which i)
    unfolding fits
    put-short h =
        unfit (rw (lt-ltb i (text_count (package_in b) which) f.here, ← f.text, lt-leb (length (utf8 (rendered p.wide (part_at b p) n))) (length old) h))

    pub put-there : {new : List ℕ} {size : ℕ} → Wrote old (utf8 (rendered p.wide (part_at b p) n)) new size
        → (size ≡ text_answer (length old) (package_in b) which i) × (new ≡ text_after old (package_in b) which i)
    unfolding fits text_answer text_after
    put-there w =
        let h : length (utf8 (rendered p.wide (part_at b p) n)) ≤ length old = omega (arith, w.size, w.fits) in
        let e : fits (length old) (package_in b) which i ≡ true =
        rw (lt-ltb i (text_count (package_in b) which) f.here, ← f.text, le-leb (length (utf8 (rendered p.wide (part_at b p) n))) (length old) h) in
        (rw (e, ← f.text) w.size, rw (e, ← f.text) w.is)
