-- What the walk finds is what document 01 has: classes with their blocks, the rows' references, the length of the report. Assumes nothing.
use Rattle.std.specs.Prelude.{◌≡◌, Bool, true, false, cond, take}
use Rattle.std.proofs.Math.Path.{refl, sym}
use Rattle.std.proofs.Common.{◌∙◌}
use mathlib.Core.List.{List, [], ◌∷◌, ◌++◌, map, map-append, append_assoc, append-nil}
use Rattle.std.proofs.Math.Option.{none}
use Prim.Native.Nat.{ℕ, zero, suc, ◌+◌, ◌≤◌, ◌<◌}
use native.Mathlib.Omega.{arith}
use Rattle.std.proofs.Math.ListN.{length, get_or}
use Rattle.std.proofs.lemmas.List.{length-map}
use Rattle.std.proofs.Math.Seq.{take-suc, take-length, length-take-le}
use Rattle.base.specs.Find.{kept, filter, flat, sum}
use Rattle.base.specs.FindLaws.{sum_same, length-flat}
use Rattle.base.specs.LoopLaws.{flat_append, sum_append, filter_append}
use Rattle.scriptblock.specs.Script.{Objects}
use Rattle.zen.specs.Zen.{no_export}
use Rattle.zen.specs.declared.tables.Export.{Export}
use Rattle.meaning.specs.Key.{Key}
use Rattle.meaning.specs.KeyLaws.{same_key-false}
use Rattle.meaning.specs.Reference.{Package}
use Rattle.meaning.specs.Scan.{Class, is_class, class_at, classes_from, classes_of, table, is_candidate, candidates}
use Rattle.meaning.specs.Resolve.{Limits, look}
use Rattle.meaning.specs.Report.{row_size, row_of, class_ref, report_of}
use Rattle.meaning.specs.Call.{Placed, placed_from, has_key, first_repeat}
use Rattle.meaning.specs.Lengths.{section_size, report-length}
use Rattle.meaning.proofs.Repeats.{placed_append}
use Rattle.meaning.proofs.Table.{placed-table}
use Rattle.packages.specs.Walk.{place_of, package_at, packages_at}
use Rattle.packages.specs.WalkLaws.{packages-length}
use Rattle.resolve.specs.Classes.{class_no, ClassesIn}
use Rattle.resolve.specs.ClassesLaws.{classes-distinct}
use Rattle.resolve.specs.Rows.{target_size}
use Rattle.walk.specs.Found.{Found, classes_in, base_size, head_size, with_export, with_exports, with_package, found_in}

-- ---- one element more

kept_append : {A : Type 0} (b : Bool) (x : A) (l m : List A) → kept b x (l ++ m) ≡ kept b x l ++ m
kept_append true x l m = refl
kept_append false x l m = refl

map-kept : {A B : Type 0} (f : A → B) (b : Bool) (x : A) → map f (kept b x []) ≡ kept b (f x) []
map-kept f true x = refl
map-kept f false x = refl

sum_kept : {A : Type 0} (f : A → ℕ) (b : Bool) (x : A) → sum f (kept b x []) ≡ cond b (f x) 0
sum_kept f true x = omega arith
sum_kept f false x = refl

sum-map : {A B : Type 0} (f : B → ℕ) (g : A → B) (l : List A) → sum f (map g l) ≡ sum (λ a. f (g a)) l
sum-map f g [] = refl
sum-map f g (x ∷ l) = rw (sum-map f g l)

sum-flat : {A B : Type 0} (f : B → ℕ) (g : A → List B) (l : List A) → sum f (flat g l) ≡ sum (λ a. sum f (g a)) l
sum-flat f g [] = refl
sum-flat f g (x ∷ l) = rw (sum_append f (g x) (flat g l), sum-flat f g l)

sum-add : {A : Type 0} (f g : A → ℕ) (l : List A) → sum f l + sum g l ≡ sum (λ a. f a + g a) l
sum-add f g [] = refl
sum-add f g (x ∷ l) = omega (arith, sum-add f g l)

module _ (limit : ℕ) (o : Objects) where
  abbrev placed_at : ℕ → Class → Placed
  placed_at j c = record { block = j; class = c }

  classes-more : (p : Package) (k : ℕ) (es : List Export) (e : Export)
      → classes_from limit o p k (es ++ (e ∷ [])) ≡ classes_from limit o p k es ++ kept (is_class limit o e) (class_at p (k + length es) e) []
  classes-more p k [] e = let z : k + 0 ≡ k = omega arith in rw z
  classes-more p k (x ∷ es) e =
      let z : k + 1 + length es ≡ k + suc (length es) = omega arith in
      rw (classes-more p (k + 1) es e, z) (kept_append (is_class limit o x) (class_at p k x) (classes_from limit o p (k + 1) es) _)

  placed-more : (j : ℕ) (ps : List Package) (p : Package)
      → placed_from limit o j (ps ++ (p ∷ [])) ≡ placed_from limit o j ps ++ map (placed_at (j + length ps)) (classes_of limit o p)
  placed-more j ps p = placed_append limit o j ps (p ∷ []) ∙ rw (append-nil (map (placed_at (j + length ps)) (classes_of limit o p)))

  -- ---- the first i exports of a package

  module _ (j : ℕ) (p : Package) (f : Found) where
    abbrev front : ℕ → List Export
    front i = take i p.read.exports

    exports-placed : (i : ℕ) → i ≤ length p.read.exports
        → (with_exports limit o j p i f).placed ≡ f.placed ++ map (placed_at j) (classes_from limit o p 0 (front i))
    unfolding with_exports with_export
    exports-placed zero h = sym (append-nil f.placed)
    exports-placed (suc i) h =
        let e = get_or p.read.exports i no_export in
        let n : 0 + length (front i) ≡ i = omega (arith, length-take-le i p.read.exports (omega arith)) in
        rw (
          exports-placed i (omega arith),
          take-suc p.read.exports i no_export (omega arith),
          classes-more p 0 (front i) e,
          n,
          map-append (placed_at j) (classes_from limit o p 0 (front i)) (kept (is_class limit o e) (class_at p i e) []),
          map-kept (placed_at j) (is_class limit o e) (class_at p i e),
        )
        (append_assoc f.placed (map (placed_at j) (classes_from limit o p 0 (front i))) _)

    exports-refs : (i : ℕ) → i ≤ length p.read.exports
        → (with_exports limit o j p i f).refs ≡ f.refs ++ map (λ e. class_ref p e) (filter (is_candidate p.read) (front i))
    unfolding with_exports with_export
    exports-refs zero h = sym (append-nil f.refs)
    exports-refs (suc i) h =
        let e = get_or p.read.exports i no_export in
        rw (
          exports-refs i (omega arith),
          take-suc p.read.exports i no_export (omega arith),
          filter_append (is_candidate p.read) (front i) (e ∷ []),
          map-append (λ e. class_ref p e) (filter (is_candidate p.read) (front i)) (kept (is_candidate p.read e) e []),
          map-kept (λ e. class_ref p e) (is_candidate p.read e) e,
        )
        (append_assoc f.refs (map (λ e. class_ref p e) (filter (is_candidate p.read) (front i))) _)

    exports-size : (i : ℕ) → i ≤ length p.read.exports
        → (with_exports limit o j p i f).size ≡ f.size + (head_size p + sum (base_size p) (filter (is_candidate p.read) (front i)))
    unfolding with_exports with_export
    exports-size zero h = omega arith
    exports-size (suc i) h =
        let e = get_or p.read.exports i no_export in
        rw (
          take-suc p.read.exports i no_export (omega arith),
          filter_append (is_candidate p.read) (front i) (e ∷ []),
          sum_append (base_size p) (filter (is_candidate p.read) (front i)) (kept (is_candidate p.read e) e []),
          sum_kept (base_size p) (is_candidate p.read e) e,
        )
        (omega (arith, exports-size i (omega arith)))

    -- ---- a package

    package_placed : (with_package limit o j p f).placed ≡ f.placed ++ map (placed_at j) (classes_of limit o p)
    unfolding classes_of
    package_placed = rw (exports-placed (length p.read.exports) (omega arith), take-length p.read.exports)

    package_refs : (with_package limit o j p f).refs ≡ f.refs ++ map (λ e. class_ref p e) (candidates p.read)
    unfolding candidates
    package_refs = rw (exports-refs (length p.read.exports) (omega arith), take-length p.read.exports)

    package_size : (with_package limit o j p f).size ≡ f.size + (head_size p + sum (base_size p) (candidates p.read))
    unfolding candidates
    package_size = rw (exports-size (length p.read.exports) (omega arith), take-length p.read.exports)

  -- ---- the packages from a place of a corpus on

  module _ (s : List ℕ) (at : ℕ) where
    pub found-placed : (n : ℕ) → (found_in limit o s at n).placed ≡ placed_from limit o 2 (packages_at s at n)
    unfolding found_in packages_at
    found-placed zero = refl
    found-placed (suc n) =
        let z : 2 + length (packages_at s at n) ≡ n + 2 = omega (arith, packages-length s at n) in
        rw (
          package_placed (n + 2) (package_at s (place_of s at n)) (found_in limit o s at n),
          found-placed n,
          placed-more 2 (packages_at s at n) (package_at s (place_of s at n)),
          z,
        )

    pub found-classes : (n : ℕ) → classes_in (found_in limit o s at n) ≡ table limit o (packages_at s at n)
    found-classes n = rw (found-placed n) (placed-table limit o 2 (packages_at s at n))

    pub found-refs : (n : ℕ) → (found_in limit o s at n).refs ≡ flat (λ (p : Package). map (λ e. class_ref p e) (candidates p.read)) (packages_at s at n)
    unfolding found_in packages_at
    found-refs zero = refl
    found-refs (suc n) =
        let p = package_at s (place_of s at n) in
        rw (
          package_refs (n + 2) p (found_in limit o s at n),
          found-refs n,
          flat_append (λ (p : Package). map (λ e. class_ref p e) (candidates p.read)) (packages_at s at n) (p ∷ []),
          append-nil (map (λ e. class_ref p e) (candidates p.read)),
        )

    pub found_rows : (n : ℕ) → length (found_in limit o s at n).refs ≡ sum (λ (p : Package). length (candidates p.read)) (packages_at s at n)
    found_rows n =
        rw (found-refs n)
        (length-flat (λ (p : Package). map (λ e. class_ref p e) (candidates p.read)) (packages_at s at n)
        ∙ sum_same _ _ (λ (p : Package). length-map (candidates p.read) (λ e. class_ref p e)) (packages_at s at n))

    found-base : (n : ℕ) → (found_in limit o s at n).size ≡ 9 + sum (λ (p : Package). head_size p + sum (base_size p) (candidates p.read)) (packages_at s at n)
    unfolding found_in packages_at
    found-base zero = refl
    found-base (suc n) =
        let p = package_at s (place_of s at n) in
        rw (
          package_size (n + 2) p (found_in limit o s at n),
          sum_append (λ (p : Package). head_size p + sum (base_size p) (candidates p.read)) (packages_at s at n) (p ∷ []),
        )
        (omega (arith, found-base n))

-- ---- the report's length

module _ (m : Limits) (xs : List Class) (o : Objects) where
  row-sum : (p : Package) (e : Export) → base_size p e + target_size m xs o (class_ref p e) ≡ row_size (row_of m (look xs) o p e)
  unfolding base_size target_size row_size row_of
  row-sum p e = omega arith

  abbrev targets : Package → ℕ
  targets p = sum (target_size m xs o) (map (λ e. class_ref p e) (candidates p.read))

  section-sum : (p : Package) → (head_size p + sum (base_size p) (candidates p.read)) + targets p ≡ section_size m (look xs) o p
  unfolding head_size section_size
  section-sum p =
      let rows : sum (base_size p) (candidates p.read) + targets p ≡ sum (λ e. row_size (row_of m (look xs) o p e)) (candidates p.read) =
      rw (sum-map (target_size m xs o) (λ e. class_ref p e) (candidates p.read))
      (sum-add (base_size p) (λ e. target_size m xs o (class_ref p e)) (candidates p.read) ∙ sum_same _ _ (row-sum p) (candidates p.read)) in
      omega arith

pub found-size : (m : Limits) (o : Objects) (s : List ℕ) (at n : ℕ)
    → (found_in m.objects o s at n).size + sum (target_size m (classes_in (found_in m.objects o s at n)) o) (found_in m.objects o s at n).refs
    ≡ length (report_of m o (packages_at s at n))
found-size m o s at n =
    let ps = packages_at s at n in
    let xs = table m.objects o ps in
    let sections : sum (λ (p : Package). head_size p + sum (base_size p) (candidates p.read)) ps + sum (targets m xs o) ps ≡ sum (section_size m (look xs) o) ps =
    sum-add _ _ ps ∙ sum_same _ _ (section-sum m xs o) ps in
    rw (
      found-classes m.objects o s at n,
      found-refs m.objects o s at n,
      found-base m.objects o s at n,
      sum-flat (target_size m xs o) (λ (p : Package). map (λ e. class_ref p e) (candidates p.read)) ps,
      report-length m o ps,
    )
    (omega arith)

-- ---- no key twice

abbrev key_no : List Placed → ℕ → Key
key_no cs i = (class_no (map (λ (x : Placed). x.class) cs) i).key

-- classes with keys that are new, and apart
once : (seen : List Key) (cs : List Placed) → ((i : ℕ) → i < length cs → has_key seen (key_no cs i) ≡ false)
    → ((i j : ℕ) → i < j → j < length cs → key_no cs i ≡ key_no cs j → ⊥) → first_repeat seen cs ≡ none
once seen [] new apart = refl
once seen (c ∷ cs) new apart =
    rw (new 0 (omega arith))
    (once (c.class.key ∷ seen) cs
    (λ i h. rw (same_key-false c.class.key (key_no cs i) (apart 0 (suc i) (omega arith) (omega arith))) (new (suc i) (omega arith)))
    (λ i j h k. apart (suc i) (suc j) (omega arith) (omega arith)))

-- where all are entered, no key stands twice
pub found-once : {s : List ℕ} {n : ℕ} {w : List ℕ} (f : Found) → ClassesIn s n (classes_in f) w → first_repeat [] f.placed ≡ none
found-once f t =
    once [] f.placed (λ i h. refl) (λ i j h k. classes-distinct t i j h (rw (length-map f.placed (λ (x : Placed). x.class)) k))
