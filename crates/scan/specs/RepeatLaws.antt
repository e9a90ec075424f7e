-- THE LAW of question 24 by number: the first class whose key an earlier one has, in the list that document 01 speaks of, is in the first
-- package that `repeats_in` is true of. Assumes nothing.
use Rattle.std.specs.Prelude.{◌≡◌, Bool, false, ◌&&◌, eqb, length, take}
use Rattle.std.proofs.Math.Path.{refl, sym, ap, ap₂}
use Rattle.std.proofs.Common.{◌∙◌, arith, eq-eqb, take-suc}
use Rattle.std.proofs.Math.Bool.{true, ◌||◌, and-false, or-true}
use mathlib.Core.List.{List, [], ◌∷◌, ◌++◌, map, map-append, append-nil}
use Rattle.std.proofs.Math.Option.{Option, none, some}
use Prim.Native.Nat.{ℕ, zero, suc, ◌+◌, ◌-◌, ◌≤◌, ◌<◌}
use Rattle.std.proofs.Math.Numerals.{add-one}
use Rattle.std.proofs.Math.Decide.{ℕ_discrete}
use Rattle.std.proofs.Math.ListN.{get_or}
use Rattle.std.proofs.Math.Seq.{take-length}
use Rattle.base.specs.Find.{or_else, kept}
use Rattle.base.specs.Never.{never}
use Rattle.scriptblock.specs.Script.{Objects}
use Rattle.zen.specs.Zen.{no_export}
use Rattle.zen.specs.declared.tables.Export.{Export}
use Rattle.meaning.specs.Key.{Key, public}
use Rattle.meaning.specs.KeyLaws.{same_key-public}
use Rattle.meaning.specs.Reference.{Package}
use Rattle.meaning.specs.Repeats.{keys_of}
use Rattle.meaning.proofs.Repeats.{has_append, has_both, repeat_more, repeat_next, placed_append}
use Rattle.meaning.proofs.Table.{or_first, or_second}
use Rattle.meaning.specs.Scan.{Class, is_class, class_at, classes_from, classes_of}
use Rattle.meaning.specs.Call.{refused_in, accepted, Placed, placed_from, has_key, first_repeat, none_twice}
use Rattle.packages.specs.Walk.{packages_at}
use Rattle.packages.specs.WalkLaws.{packages-next, packages-length}
use Rattle.scan.specs.Repeats.{below, is_class_of, has_class, has_public, package_no, is_before, is_repeat, repeats_in, repeat_block}
use Rattle.scan.specs.PlaceLaws.{packages-more}

-- ---- a test of numbers, one by one

module _ (f : ℕ → Bool) where
  pub below_none : below 0 f ≡ false
  unfolding below
  below_none = refl

  pub below_more : (n : ℕ) → below n f ≡ false → f n ≡ false → below (n + 1) f ≡ false
  unfolding below
  below_more n e q = rw (add-one, e, q)

  -- all are passed
  pub below_end : (n m : ℕ) → n ≤ m → m ≤ n → below n f ≡ false → false ≡ below m f
  below_end n m h g e = let z : m ≡ n = omega arith in rw z (sym e)

  pub below-yes : (n i : ℕ) → i < n → f i ≡ true → below n f ≡ true
  unfolding below
  below-yes zero i h e = absurd (omega arith)
  below-yes (suc n) i h e = go (ℕ_discrete i n) (below-yes n i)
    where
      go : Dec (i ≡ n) → (i < n → f i ≡ true → below n f ≡ true) → below n f || f n ≡ true
      go (yes q) ih = let z : f n ≡ true = rw q at e in rw z (or-true (below n f))
      go (no q) ih = rw (ih (omega arith) e)

-- ---- the first repeat, by tests

-- what a test says of the first repeat: there is none, or it is in block j
abbrev Says : Bool → ℕ → Option Placed → Type 0
Says false j x = x ≡ none
Says true j x = (y : Placed) × (x ≡ some y) × (y.block ≡ j)

module _ (limit : ℕ) (o : Objects) where
  -- ---- the classes of a package, of its first n exports

  module _ (p : Package) (j : ℕ) where
    abbrev es : List Export
    es = p.read.exports

    abbrev placed : List Class → List Placed
    placed cs = map (λ (c : Class). record { block = j; class = c }) cs

    abbrev firsts : ℕ → List Placed
    firsts n = placed (classes_from limit o p 0 (take n es))

    -- export n as a class, if it is one
    abbrev next : ℕ → ℕ → List Placed
    next k n = placed (kept (is_class limit o (get_or es n no_export)) (class_at p k (get_or es n no_export)) [])

    classes_append : (i : ℕ) (l : List Export) (e : Export) → (k : ℕ) × (classes_from limit o p i (l ++ e ∷ []) ≡ classes_from limit o p i l ++ kept (is_class limit o e) (class_at p k e) [])
    classes_append i [] e = (i, refl)
    classes_append i (x ∷ l) e = let (k, q) = classes_append (i + 1) l e in (k, rw q (go k (is_class limit o x)))
      where
        go : (k : ℕ) (b : Bool) → kept b (class_at p i x) (classes_from limit o p (i + 1) l ++ kept (is_class limit o e) (class_at p k e) [])
            ≡ kept b (class_at p i x) (classes_from limit o p (i + 1) l) ++ kept (is_class limit o e) (class_at p k e) []
        go k true = refl
        go k false = refl

    firsts-next : (n : ℕ) → n < length es → (k : ℕ) × (firsts (suc n) ≡ firsts n ++ next k n)
    firsts-next n h =
        let (k, q) = classes_append 0 (take n es) (get_or es n no_export) in
        let more = kept (is_class limit o (get_or es n no_export)) (class_at p k (get_or es n no_export)) [] in
        (k, rw (take-suc es n no_export h, q) (map-append (λ (c : Class). record { block = j; class = c }) (classes_from limit o p 0 (take n es)) more))

    -- whether one of them has a key
    firsts-has : (id hash n : ℕ) → n ≤ length es → has_key (keys_of (firsts n)) (public id hash) ≡ eqb p.id id && has_class limit o es n hash
    unfolding below has_class is_class_of class_at
    firsts-has id hash zero h = sym (and-false (eqb p.id id))
    firsts-has id hash (suc n) h =
        let (k, q) = firsts-next n (omega arith) in
        rw (q, has_both (firsts n) (next k n) (public id hash), firsts-has id hash n (omega arith))
        (go k (is_class limit o (get_or es n no_export)) refl)
      where
        e : Export
        e = get_or es n no_export

        bools : (a c d : Bool) → (a && c) || ((a && d) || false) ≡ (a && (c || (d && true)))
        bools true true d = refl
        bools true false true = refl
        bools true false false = refl
        bools false c d = refl

        none_more : (a c d : Bool) → (a && c) || false ≡ (a && (c || (d && false)))
        none_more true true d = refl
        none_more true false true = refl
        none_more true false false = refl
        none_more false c d = refl

        go : (k : ℕ) (b : Bool) → is_class limit o e ≡ b
            → (eqb p.id id && has_class limit o es n hash) || has_key (keys_of (placed (kept b (class_at p k e) []))) (public id hash)
            ≡ (eqb p.id id && (has_class limit o es n hash || is_class_of limit o hash e))
        go k true q =
            rw (q, same_key-public p.id e.hash id hash) (bools (eqb p.id id) (has_class limit o es n hash) (eqb e.hash hash))
        go k false q = rw q (none_more (eqb p.id id) (has_class limit o es n hash) (eqb e.hash hash))

    -- whether one of them has a key that is seen, or that an earlier one has
    module _ (seen : List Key) (before : ℕ → Bool) (is : (hash : ℕ) → has_key seen (public p.id hash) ≡ before hash) where
      repeated : ℕ → Bool
      repeated n = is_class limit o (get_or es n no_export) && (has_class limit o es n (get_or es n no_export).hash || before (get_or es n no_export).hash)

      firsts_say : (n : ℕ) → n ≤ length es → Says (below n repeated) j (first_repeat seen (firsts n))
      unfolding below repeated class_at
      firsts_say zero h = refl
      firsts_say (suc n) h = let (k, q) = firsts-next n (omega arith) in rw q (go k (below n repeated) (firsts_say n (omega arith)))
        where
          e : Export
          e = get_or es n no_export

          test : Bool
          test = has_class limit o es n e.hash || before e.hash

          held : has_key (keys_of (firsts n) ++ seen) (public p.id e.hash) ≡ test
          held =
              has_append (keys_of (firsts n)) seen (public p.id e.hash)
              ∙ rw (firsts-has p.id e.hash n (omega arith), eq-eqb p.id p.id refl, is e.hash)

          one : (k : ℕ) (b t : Bool) → has_key (keys_of (firsts n) ++ seen) (public p.id e.hash) ≡ t
              → Says (b && t) j (first_repeat (keys_of (firsts n) ++ seen) (placed (kept b (class_at p k e) [])))
          one k false t q = refl
          one k true true q = rw q (record { block = j; class = class_at p k e }, refl, refl)
          one k true false q = rw q

          go : (k : ℕ) (b : Bool) → Says b j (first_repeat seen (firsts n)) → Says (b || (is_class limit o e && test)) j (first_repeat seen (firsts n ++ next k n))
          go k true (y, f, g) = (y, repeat_more seen (firsts n) (next k n) y f, g)
          go k false f = rw (repeat_next seen (firsts n) (next k n) f) (one k (is_class limit o e) test held)

  -- ---- those of packages, in their order

  abbrev listed : List ℕ → ℕ → ℕ → List Placed
  listed c at n = placed_from limit o 2 (packages_at c at n)

  module _ (c : List ℕ) (at : ℕ) where
    abbrev count : ℕ → ℕ
    count n = length (package_no c at n).read.exports

    -- one package more
    listed_next : (n : ℕ) → listed c at (suc n) ≡ listed c at n ++ firsts (package_no c at n) (2 + n) (count n)
    unfolding classes_of
    listed_next n =
        rw (← add-one n, packages-next c at n, placed_append limit o 2 (packages_at c at n) (package_no c at n ∷ []), packages-length c at n, take-length (package_no c at n).read.exports, append-nil)

    -- whether one of them has a key
    listed_has : (id hash n : ℕ) → has_key (keys_of (listed c at n)) (public id hash) ≡ is_before limit o c at n id hash
    unfolding below is_before has_public packages_at
    listed_has id hash zero = refl
    listed_has id hash (suc n) =
        let p = package_no c at n in
        let x = firsts p (2 + n) (count n) in
        ap (λ l. has_key (keys_of l) (public id hash)) (listed_next n)
        ∙ (has_both (listed c at n) x (public id hash) ∙ ap₂ ◌||◌ (listed_has id hash n) (firsts-has p (2 + n) id hash (count n) (omega arith)))

    -- package n has a repeat, or not, where none before it has
    listed-says : (n : ℕ) → first_repeat [] (listed c at n) ≡ none → Says (repeats_in limit o c at n) (2 + n) (first_repeat [] (listed c at (suc n)))
    unfolding repeats_in is_repeat repeated
    listed-says n e =
        let p = package_no c at n in
        let x = firsts p (2 + n) (count n) in
        let s = keys_of (listed c at n) in
        let f : first_repeat [] (listed c at (suc n)) ≡ first_repeat s x = rw (listed_next n, repeat_next [] (listed c at n) x e, append-nil s) in
        rw f (firsts_say p (2 + n) s (is_before limit o c at n p.id) (λ hash. listed_has p.id hash n) (count n) (omega arith))

    none-listed : (n : ℕ) → below n (repeats_in limit o c at) ≡ false → first_repeat [] (listed c at n) ≡ none
    unfolding below packages_at
    none-listed zero e = refl
    none-listed (suc n) e =
        let a = or_first (below n (repeats_in limit o c at)) (repeats_in limit o c at n) e in
        let b = or_second (below n (repeats_in limit o c at)) (repeats_in limit o c at n) e in
        rw b at (listed-says n (none-listed n a))

    -- no package has one
    pub repeat_none : (n : ℕ) → below n (repeats_in limit o c at) ≡ false → 0 ≡ repeat_block (first_repeat [] (placed_from limit o 2 (packages_at c at n)))
    repeat_none n e = rw (none-listed n e)

    -- package n is the first that has one
    pub repeat_first : (n m : ℕ) → n < m → below n (repeats_in limit o c at) ≡ false → repeats_in limit o c at n ≡ true
        → n + 2 ≡ repeat_block (first_repeat [] (placed_from limit o 2 (packages_at c at m)))
    repeat_first n m h e r =
        let (y, f, g) = rw r at (listed-says n (none-listed n e)) in
        let (ps, q) = packages-more c at (suc n) (m - suc n) in
        let z : suc n + (m - suc n) ≡ m = omega arith in
        let l : listed c at m ≡ listed c at (suc n) ++ placed_from limit o (2 + length (packages_at c at (suc n))) ps =
        ap (listed c at) (sym z) ∙ (ap (placed_from limit o 2) q ∙ placed_append limit o 2 (packages_at c at (suc n)) ps) in
        rw (l, repeat_more [] (listed c at (suc n)) (placed_from limit o (2 + length (packages_at c at (suc n))) ps) y f) (omega arith)

  -- ---- for callers: the block says whether there is one, as no class stands in block 0

  abbrev Behind : ℕ → List Placed → Type 0
  Behind j [] = Unit {0}
  Behind j (x ∷ l) = (j ≤ x.block) × Behind j l

  repeat_behind : (j : ℕ) (seen : List Key) (l : List Placed) → Behind j l → (y : Placed) → first_repeat seen l ≡ some y → j ≤ y.block
  repeat_behind j seen [] b y e = never (cc)
  repeat_behind j seen (x ∷ l) b y e = go (has_key seen x.class.key) (repeat_behind j (x.class.key ∷ seen) l b.1 y) e
    where
      go : (t : Bool) → (first_repeat (x.class.key ∷ seen) l ≡ some y → j ≤ y.block) → or_else t x (first_repeat (x.class.key ∷ seen) l) ≡ some y → j ≤ y.block
      go true ih e = let q : x ≡ y = cc in rw q at b.0
      go false ih e = ih e

  placed-behind : (i j : ℕ) (ps : List Package) → i ≤ j → Behind i (placed_from limit o j ps)
  placed-behind i j [] h = tt
  placed-behind i j (p ∷ ps) h = go (classes_of limit o p) (placed-behind i (j + 1) ps (omega arith))
    where
      go : (cs : List Class) → Behind i (placed_from limit o (j + 1) ps) → Behind i (placed p j cs ++ placed_from limit o (j + 1) ps)
      go [] b = b
      go (c ∷ cs) b = (h, go cs b)

  module _ (ps : List Package) where
    abbrev first : Option Placed
    first = first_repeat [] (placed_from limit o 2 ps)

    pub twice-none : repeat_block first ≡ 0 → none_twice first ≡ accepted tt
    twice-none e = go first refl e
      where
        go : (x : Option Placed) → first ≡ x → repeat_block x ≡ 0 → none_twice x ≡ accepted tt
        go none q e = refl
        go (some y) q e = absurd (omega (arith, repeat_behind 2 [] (placed_from limit o 2 ps) (placed-behind 2 2 ps (omega arith)) y q))

    pub twice-some : 0 < repeat_block first → none_twice first ≡ refused_in 24 (repeat_block first)
    twice-some h = go first h
      where
        go : (x : Option Placed) → 0 < repeat_block x → none_twice x ≡ refused_in 24 (repeat_block x)
        go none h = absurd (omega arith)
        go (some y) h = refl
