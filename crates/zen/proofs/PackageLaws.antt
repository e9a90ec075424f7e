-- What whoever reads an accepted package, or a rejected one, needs to know of it. Assumes nothing.
use Rattle.std.specs.Prelude.{◌≡◌, true, ℕ, zero, suc, ◌<◌, ltb, length, take, Ok, Err}
use Rattle.std.proofs.Common.{ap, arith, ltb-true}
use mathlib.Core.List.{List, [], ◌∷◌, ◌++◌}
use Rattle.std.proofs.Math.Bool.{and-eq-true_iff}
use Rattle.std.proofs.Math.ListN.{get_or}
use Rattle.base.specs.Reading.{refused, gives, run_block}
use Rattle.base.specs.ReadingRows.{cells-length}
use Rattle.base.specs.NumberLaws.{Bytes}
use Rattle.text.specs.Name.{suffix, rendered}
use Rattle.batch.specs.Places.{place_at, part_at}
use Rattle.batch.specs.PlacesLaws.{texts-length}
use Rattle.batch.specs.Holds.{Holds, holds-take}
use Rattle.batch.specs.declared.places.Place.{Place}
use Rattle.zen.specs.Zen.{Read, package_block, named, no_export}
use Rattle.zen.specs.Answers.{answer, names_of, exports_of, imported_of, numbers_of, imported_name_of, package_name_of}
use Rattle.zen.specs.AnswersLaws.{accepted-got, rejected-got}
use Rattle.zen.proofs.Accepted.{parts}
use Rattle.zen.specs.declared.tables.Export.{Export}
use Rattle.zen.specs.declared.zen.Layout.{Layout}

-- ---- a rejected block

pub rejected-read : (b : List ℕ) (q : ℕ) → answer (run_block package_block b) ≡ Err q → run_block package_block b ≡ refused q
rejected-read b q e = rejected-got (run_block package_block b) e

-- ---- elements that passed a test

named-at : (n : ℕ) (es : List Export) → named n es ≡ true → (i : ℕ) → i < length es → (get_or es i no_export).index < n
named-at n [] q i l = absurd (omega arith)
named-at n (e ∷ es) q zero l = ltb-true e.index n ((and-eq-true_iff (ltb e.index n) (named n es)).0 q).0
named-at n (e ∷ es) q (suc i) l = named-at n es ((and-eq-true_iff (ltb e.index n) (named n es)).0 q).1 i (omega arith)

-- ---- an accepted block

module _ (b : List ℕ) (l : Layout) (acc : answer (run_block package_block b) ≡ Ok l) where
  pub accepted-read : (r : Read) × (run_block package_block b ≡ gives r) × (r.layout ≡ l)
  accepted-read = accepted-got (run_block package_block b) acc

  -- as many names, imported names and their numbers as the batches have
  pub name-count : length (names_of (run_block package_block b)) ≡ l.names.count
  name-count = rw (parts b l acc).names (texts-length _ _ _ l.names.count)

  pub imported_count_lem : length (imported_of (run_block package_block b)) ≡ l.imported.count
  imported_count_lem = rw (parts b l acc).imported (texts-length _ _ _ l.imported.count)

  pub number-count : length (numbers_of (run_block package_block b)) ≡ l.imported.count
  number-count = rw (parts b l acc).numbers (cells-length _ 4 _ l.imported.count)

  -- an export's name is in the batch
  pub export-index : (i : ℕ) → i < length (exports_of (run_block package_block b)) → (get_or (exports_of (run_block package_block b)) i no_export).index < l.names.count
  export-index i h = named-at l.names.count (exports_of (run_block package_block b)) (parts b l acc).named i h

  module _ (y : Bytes b) (i : ℕ) (p : Place) where
    -- the place that `name_place` gives holds name i
    pub name-text : i < l.names.count → p ≡ place_at (take l.size b) l.names i → Holds b p (get_or (names_of (run_block package_block b)) i [])
    name-text h e = let k = parts b l acc in rw (e, k.names) (holds-take b l.size l.names k.size y (k.names-held y) i h)

    -- the place that `imported_place` gives holds imported name i
    pub imported-text : i < l.imported.count → p ≡ place_at (take l.size b) l.imported i → Holds b p (get_or (imported_of (run_block package_block b)) i [])
    imported-text h e = let k = parts b l acc in rw (e, k.imported) (holds-take b l.size l.imported k.size y (k.imported-held y) i h)

  -- the names that are rendered, from the texts and the numbers
  pub imported_name_lem : (i : ℕ)
      → imported_name_of (run_block package_block b) i ≡ get_or (imported_of (run_block package_block b)) i [] ++ suffix (get_or (numbers_of (run_block package_block b)) i 0)
  unfolding imported_name_of imported_of numbers_of
  imported_name_lem i = let (r, y, z) = accepted-read in rw y

  pub package_name_lem : package_name_of (run_block package_block b) ≡ get_or (names_of (run_block package_block b)) l.summary.index [] ++ suffix l.summary.number
  unfolding package_name_of names_of
  package_name_lem = let (r, y, z) = accepted-read in rw y (ap (λ (k : Layout). get_or r.names k.summary.index [] ++ suffix k.summary.number) z)

  -- and from their places: those that `imported_place` and `package_name_place` give
  module _ (y : Bytes b) (p : Place) where
    pub imported-rendered : (i : ℕ) → i < l.imported.count → p ≡ place_at (take l.size b) l.imported i
        → rendered p.wide (part_at b p) (get_or (numbers_of (run_block package_block b)) i 0) ≡ imported_name_of (run_block package_block b) i
    imported-rendered i h e = rw (imported_name_lem i, (imported-text y i p h e).text)

    pub package_text : p ≡ place_at (take l.size b) l.names l.summary.index
        → Holds b p (get_or (names_of (run_block package_block b)) l.summary.index [])
    package_text e = name-text y l.summary.index p (parts b l acc).index e

    pub package_rendered : p ≡ place_at (take l.size b) l.names l.summary.index
        → rendered p.wide (part_at b p) l.summary.number ≡ package_name_of (run_block package_block b)
    package_rendered e = rw (package_name_lem, (package_text e).text)
