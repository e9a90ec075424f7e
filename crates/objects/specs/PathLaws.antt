-- Laws of the path over links, as code follows them, and of the class test. Assumes nothing.
use Rattle.std.specs.Prelude.{◌≡◌, refl, Bool, true, false, ◌&&◌, List, [], eqb, length, get_or}
use Rattle.std.proofs.Common.{sym, ◌∙◌, add-one}
use Rattle.std.proofs.Math.Path.{ap}
use Rattle.std.proofs.Math.Option.{Option, none, some}
use Prim.Native.Nat.{ℕ, zero, suc, ◌+◌, ◌-◌, ◌*◌, ◌/◌, ◌%◌, ◌≤◌, ◌<◌}
use native.Mathlib.Omega.{arith}
use Rattle.text.specs.Affix.{ends_with}
use Rattle.base.specs.Number.{le_at}
use Rattle.base.specs.NumberLaws.{Bytes}
use Rattle.batch.specs.Places.{place_at}
use Rattle.batch.specs.Holds.{text_at, Holds, holds-name, holds-own}
use Rattle.batch.specs.declared.places.Place.{Place}
use Rattle.scriptblock.specs.Script.{Objects, object_name}
use Rattle.scriptblock.specs.ScriptGood.{Good}
use Rattle.scriptblock.proofs.ScriptGood.{script-good}
use Rattle.scriptblock.proofs.ScriptAccepted.{names_of_lem, name-text}
use Rattle.meaning.specs.Path.{Path, added, start, path_of}
use Rattle.meaning.proofs.Native.{object-member}
use Rattle.meaning.specs.Scan.{class_end}
use Rattle.meaning.specs.ClassTest.{is_known, names_class}
use Rattle.meaning.proofs.ClassTest.{class-test}
use Rattle.table.specs.Table.{record_at}
use Rattle.objects.specs.Numbers.{entry_no, number_of, link_of, path_by, path_no}
use Rattle.objects.specs.NumberLaws.{number_at, number-le, link-le, path-missing, path-found, member}
use Rattle.objects.specs.Work.{packed, Columns, ObjectsIn, Keyed, Linked, LinkedOf, object_no, place_of}
use Rattle.objects.specs.WorkLaws.{parts_of_lem, entries-length, entry_no_lem}
use Rattle.objects.specs.LinkLaws.{count-is}

-- ---- one object more, of so many that are left

module _ (left : ℕ) (o : Objects) (i : ℕ) where
  pub path_end : left ≤ 0 → path_no left o i ≡ none
  unfolding path_no
  path_end h = let z : left ≡ 0 = omega arith in rw z

  module _ (h : 0 < left) where
    pub path-step : path_no left o i ≡ added (object_name o (entry_no o i)) (path_by (path_no (left - 1) o) (link_of o (entry_no o i).outer))
    unfolding path_no
    path-step = let z : left ≡ suc (left - 1) = omega arith in ap (λ n. path_no n o i) z

    -- k is where its outer leads
    module _ {k : ℕ} (q : k ≡ link_of o (entry_no o i).outer) where
      pub path-lost : k ≡ 0 → path_no left o i ≡ none
      path-lost z = path-step ∙ rw (← q, z)

      pub path-top : k ≡ 1 → path_no left o i ≡ added (object_name o (entry_no o i)) (some start)
      path-top z = path-step ∙ rw (← q, z)

      pub path-up : 2 ≤ k → path_no left o i ≡ added (object_name o (entry_no o i)) (path_no (left - 1) o (k - 2))
      path-up m = let z : k ≡ suc (suc (k - 2)) = omega arith in path-step ∙ rw (← q) (ap (λ n. added (object_name o (entry_no o i)) (path_by (path_no (left - 1) o) n)) z)

      known-added : (name : List ℕ) (x : Option Path) → is_known (added name x) ≡ is_known x
      known-added name none = refl
      known-added name (some p) = refl

      -- so it is known where k is 1
      pub known_end : k < 2 → eqb k 1 ≡ is_known (path_no left o i)
      known_end m = go k refl m
        where
          go : (n : ℕ) → k ≡ n → n < 2 → eqb n 1 ≡ is_known (path_no left o i)
          go zero z m = rw (path-lost z)
          go (suc zero) z m = rw (path-top z)
          go (suc (suc n)) z m = absurd (omega arith)

      -- where k is more, it is known where its outer's is
      pub known_up : 2 ≤ k → is_known (path_no left o i) ≡ is_known (path_no (left - 1) o (k - 2))
      known_up m = rw (path-up m) (known-added (object_name o (entry_no o i)) (path_no (left - 1) o (k - 2)))

-- ---- columns of the object that stands at a place

pub linked-keyed : {w : List ℕ} → Linked w → Keyed w
linked-keyed t = record { block = t.block; objects = t.objects; holds = t.holds.all }

pub of_linked : {b w : List ℕ} → LinkedOf b w → Linked w
of_linked {b} t = record { block = b; objects = t.objects; holds = t.holds }

module _ {b : List ℕ} {o : Objects} {w : List ℕ} (t : ObjectsIn b o w) where
  pub inside-count : (i : ℕ) → 56 * i < length w → i < o.layout.count
  inside-count i h = omega (arith, t.all.entered.size)

  -- a link leads inside
  pub link-inside : {k : ℕ} (outer : ℕ) → k ≡ link_of o outer → 2 ≤ k → 56 * (k - 2) < length w
  link-inside outer q m = omega (arith, link-le o outer, entries-length t.all, t.all.entered.size)

  pub number-inside : {i : ℕ} (g : ℕ) → suc i ≡ number_of o.entries g → 56 * i < length w
  number-inside g q = omega (arith, number-le o.entries g, entries-length t.all, t.all.entered.size)

  module _ (i : ℕ) (h : 56 * i < length w) {at : ℕ} (place : at ≡ record_at (3 * (length w / 56)) 44 i) where
    here : at ≡ record_at (3 * o.layout.count) 44 i
    here = place ∙ ap (λ n. record_at (3 * n) 44 i) (count-is t.all)

    pub link_at_lem : {k : ℕ} → k ≡ le_at 4 w (at + 24) → k ≡ link_of o (entry_no o i).outer
    link_at_lem q = q ∙ rw here (t.links i (inside-count i h))

    pub columns-at : Columns b o.layout.names (entry_no o i) w at
    columns-at = rw (here, entry_no_lem t.all i (inside-count i h)) (t.all.entered.columns i (inside-count i h))

  -- its name's place, and the text there
  module _ (i : ℕ) (h : i < o.layout.count) where
    index-lt : (entry_no o i).index < o.layout.names.count
    index-lt = rw (entry_no_lem t.all i h) ((parts_of_lem t.all).index i h)

    pub place-holds : Bytes b → Holds b (place_at b o.layout.names (entry_no o i).index) (text_at b (place_at b o.layout.names (entry_no o i).index))
    place-holds bs = holds-own (holds-name b o.layout.names bs ((parts_of_lem t.all).held bs) (entry_no o i).index index-lt)

    pub place_base : text_at b (place_at b o.layout.names (entry_no o i).index) ≡ get_or o.names (entry_no o i).index []
    place_base = name-text b o.layout (parts_of_lem t.all) (entry_no o i).index index-lt ∙ rw (names_of_lem t.all.read)

-- the place, from its columns
pub unpacked : (p : Place) → record { start = p.start; size = packed p / 2; wide = eqb (packed p % 2) 1 } ≡ p
unpacked p = go p.wide refl
  where
    go : (x : Bool) → p.wide ≡ x → record { start = p.start; size = packed p / 2; wide = eqb (packed p % 2) 1 } ≡ p
    go true q = let s : packed p / 2 ≡ p.size = rw q (omega arith) in let u : eqb (packed p % 2) 1 ≡ p.wide = let n : packed p % 2 ≡ 1 = rw q (omega arith) in rw (n, q) in rw (s, u)
    go false q = let s : packed p / 2 ≡ p.size = rw q (omega arith) in let u : eqb (packed p % 2) 1 ≡ p.wide = let n : packed p % 2 ≡ 0 = rw q (omega arith) in rw (n, q) in rw (s, u)

pub place_no_lem : (b : List ℕ) (o : Objects) (i : ℕ) → place_of (object_no b o i) ≡ place_at b o.layout.names (entry_no o i).index
unfolding object_no
place_no_lem b o i = unpacked (place_at b o.layout.names (entry_no o i).index)

pub number_no_lem : (b : List ℕ) (o : Objects) (i : ℕ) → (object_no b o i).number ≡ (entry_no o i).number
unfolding object_no
number_no_lem b o i = refl

pub outer_no : (b : List ℕ) (o : Objects) (i : ℕ) → (object_no b o i).outer ≡ link_of o (entry_no o i).outer
unfolding object_no
outer_no b o i = refl

-- ---- the class test, by number

module _ {b : List ℕ} {o : Objects} {w : List ℕ} (t : ObjectsIn b o w) where
  good : Good o
  good = script-good b o t.all.read

  pub class-none : (limit g : ℕ) → number_of o.entries g ≡ 0 → names_class (path_of limit o g) ≡ false
  class-none limit g q = rw (path-missing limit o g q)

  pub class_no_lem : (limit g i : ℕ) → number_of o.entries g ≡ suc i
      → names_class (path_of limit o g) ≡ is_known (path_no limit o i) && ends_with (object_name o (entry_no o i)) class_end
  class_no_lem limit g i q =
      let e : (entry_no o i).global ≡ g = number_at o.entries g i q in
      let m = member o.entries i (omega (arith, number-le o.entries g)) in
      rw (← path-found limit o good g i (q ∙ sym (add-one i))) (class-test o limit g (entry_no o i) (rw e at (object-member o good (entry_no o i) m)))

pub and-true : (x : Bool) {y : Bool} → y ≡ true → (x && y) ≡ x
and-true true e = e
and-true false e = refl

pub and-false : (x : Bool) {y : Bool} → y ≡ false → (x && y) ≡ false
and-false true e = e
and-false false e = refl
