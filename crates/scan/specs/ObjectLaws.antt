-- Laws of the class test, as code makes it: the object with a global index by its entry's number, its path, its name. Assumes nothing.
use Rattle.std.specs.Prelude.{◌≡◌, Bool, true, ◌&&◌, List, [], ◌∷◌, eqb, length, get_or}
use Rattle.std.proofs.Math.Path.{refl, ap}
use Rattle.std.proofs.Common.{◌∙◌}
use Rattle.std.proofs.Math.Bool.{false, not, and-true, and-false}
use Rattle.std.proofs.Math.Option.{Option, none, some}
use Prim.Native.Nat.{ℕ, zero, suc, ◌+◌, ◌-◌, ◌≤◌, ◌<◌}
use native.Mathlib.Omega.{arith}
use borrow.Author.Tests.{ne_eqb}
use Rattle.text.specs.Affix.{ends_with}
use Rattle.base.specs.Find.{find}
use Rattle.base.specs.Index.{kind}
use Rattle.base.specs.SeekLaws.{First, Never, seek-never, seek-first}
use Rattle.scriptblock.specs.Objects.{entry_number}
use Rattle.scriptblock.specs.Script.{Objects, object_name}
use Rattle.scriptblock.specs.ScriptAnswers.{no_entry}
use Rattle.scriptblock.specs.declared.script.Entry.{Entry}
use Rattle.zen.specs.declared.tables.Export.{Export}
use Rattle.meaning.specs.Path.{Path, object_at, added, beyond, path_of}
use Rattle.meaning.specs.Scan.{class_end, is_class}
use Rattle.meaning.specs.ClassTest.{is_known, names_class}
use Rattle.meaning.proofs.ClassTest.{class-test, class-test-none}

-- ---- the first that passes a test, and its number

module _ {A : Type 0} (f : A → Bool) (d : A) where
  find-never : (l : List A) → Never f d l → find f l ≡ none
  find-never [] n = refl
  find-never (x ∷ l) n = rw (n 0 (omega arith)) (find-never l (λ j h. n (suc j) (omega arith)))

  find_first : (l : List A) (k : ℕ) → First f d l k → find f l ≡ some (get_or l k d)
  find_first [] k g = absurd (omega (arith, g.here))
  find_first (x ∷ l) zero g = rw g.passes
  find_first (x ∷ l) (suc k) g =
      rw (g.before 0 (omega arith)) (find_first l k (record { here = omega (arith, g.here); passes = g.passes; before = λ j h. g.before (suc j) (omega arith) }))

module _ (o : Objects) (g : ℕ) where
  pub object-none : entry_number g o.entries ≡ 0 → object_at o g ≡ none
  object-none q = find-never (λ (e : Entry). eqb e.global g) no_entry o.entries (seek-never (λ (e : Entry). eqb e.global g) no_entry o.entries q)

  pub object-some : (k : ℕ) → entry_number g o.entries ≡ k + 1 → object_at o g ≡ some (get_or o.entries k no_entry)
  object-some k q = find_first (λ (e : Entry). eqb e.global g) no_entry o.entries k (seek-first (λ (e : Entry). eqb e.global g) no_entry o.entries k q)

  pub number-inside : (k : ℕ) → entry_number g o.entries ≡ k + 1 → k < length o.entries
  number-inside k q = (seek-first (λ (e : Entry). eqb e.global g) no_entry o.entries k q).here

-- ---- a known path, object by object, of so many that are left

known-added : (name : List ℕ) (x : Option Path) → is_known (added name x) ≡ is_known x
known-added name none = refl
known-added name (some p) = refl

module _ (o : Objects) (g left : ℕ) where
  pub known_end : left ≤ 0 → is_known (path_of left o g) ≡ false
  unfolding path_of
  known_end h = let z : left ≡ 0 = omega arith in rw z

  pub known-none : object_at o g ≡ none → is_known (path_of left o g) ≡ false
  unfolding path_of
  known-none e = go left
    where
      go : (n : ℕ) → is_known (path_of n o g) ≡ false
      go zero = refl
      go (suc n) = rw e

  module _ (h : 0 < left) (u : Entry) (e : object_at o g ≡ some u) where
    path-step : path_of left o g ≡ added (object_name o u) (beyond (eqb (kind u.outer) 3) (path_of (left - 1) o u.outer))
    unfolding path_of
    path-step = let z : left ≡ suc (left - 1) = omega arith in ap (λ n. path_of n o g) z ∙ rw e

    pub known-top : kind u.outer ≡ 3 → is_known (path_of left o g) ≡ true
    known-top k = rw (path-step, k)

    pub known_up : (kind u.outer ≡ 3 → ⊥) → is_known (path_of left o g) ≡ is_known (path_of (left - 1) o u.outer)
    known_up k = rw (path-step, ne_eqb (kind u.outer) 3 k) (known-added (object_name o u) (path_of (left - 1) o u.outer))

-- ---- the class test: each question by itself

module _ (limit : ℕ) (o : Objects) (e : Export) where
  pub class-hash : e.hash ≡ 0 → is_class limit o e ≡ false
  unfolding is_class
  class-hash h = rw h (ap (λ x. x && names_class (path_of limit o e.class)) (and-false (eqb (kind e.class) 1 && not (eqb (kind e.parent) 3))))

  pub class_kind_lem : (kind e.class ≡ 1 → ⊥) → is_class limit o e ≡ false
  unfolding is_class
  class_kind_lem h = rw (ne_eqb (kind e.class) 1 h)

  pub class-parent : kind e.parent ≡ 3 → is_class limit o e ≡ false
  unfolding is_class
  class-parent h = rw (h) (ap (λ x. x && not (eqb e.hash 0) && names_class (path_of limit o e.class)) (and-false (eqb (kind e.class) 1)))

  -- the three are answered
  pub class_path_lem : (e.hash ≡ 0 → ⊥) → kind e.class ≡ 1 → (kind e.parent ≡ 3 → ⊥) → is_class limit o e ≡ names_class (path_of limit o e.class)
  unfolding is_class
  class_path_lem h k p = rw (k, ne_eqb (kind e.parent) 3 p, ne_eqb e.hash 0 h)

module _ (limit : ℕ) (o : Objects) (g : ℕ) where
  pub names-none : entry_number g o.entries ≡ 0 → names_class (path_of limit o g) ≡ false
  names-none q = class-test-none o limit g (object-none o g q)

  module _ (k : ℕ) (q : entry_number g o.entries ≡ k + 1) where
    pub names-plain : ends_with (object_name o (get_or o.entries k no_entry)) class_end ≡ false → names_class (path_of limit o g) ≡ false
    names-plain e = class-test o limit g (get_or o.entries k no_entry) (object-some o g k q) ∙ rw e (and-false (is_known (path_of limit o g)))

    pub names-known : ends_with (object_name o (get_or o.entries k no_entry)) class_end ≡ true → names_class (path_of limit o g) ≡ is_known (path_of limit o g)
    names-known e = class-test o limit g (get_or o.entries k no_entry) (object-some o g k q) ∙ rw e (and-true (is_known (path_of limit o g)))
