-- The class table in any order: question 24 ("no class key twice?") and the look-up by key don't see the packages' order.
use Rattle.std.specs.Prelude.{◌≡◌, refl, Bool, true, false, ◌||◌, List, [], ◌∷◌, map, ℕ, ◌+◌, T}
use Rattle.std.proofs.Common.{sym, ◌∙◌, ap}
use Rattle.std.proofs.lemmas.List.{map-append}
use Rattle.std.proofs.Math.Option.{Option}
use Rattle.base.specs.Find.{or_else}
use Rattle.base.specs.Never.{never}
use Rattle.base.specs.Perm.{Perm, same, keep, swap, then}
use Rattle.scriptblock.specs.Script.{Objects}
use Rattle.meaning.specs.Key.{Key, same_key}
use Rattle.meaning.specs.KeyLaws.{same_key→eq, same_key-refl, same_key-sym}
use Rattle.meaning.specs.Reference.{Package}
use Rattle.meaning.specs.Scan.{Class, classes_of, table}
use Rattle.meaning.specs.Resolve.{look}
use Rattle.meaning.specs.Call.{accepted, Placed, placed_from, has_key, first_repeat, none_twice}
pub use Rattle.meaning.specs.Table.{repeats}

-- ---- tests

pub or_swap : (a b c : Bool) → a || (b || c) ≡ b || (a || c)
or_swap true true c = refl
or_swap true false c = refl
or_swap false true c = refl
or_swap false false c = refl

pub or_first : (a b : Bool) → a || b ≡ false → a ≡ false
or_first true b h = h
or_first false b h = refl

pub or_second : (a b : Bool) → a || b ≡ false → b ≡ false
or_second true b h = never (cc)
or_second false b h = h

pub not-true : {b : Bool} → b ≡ false → T b → ⊥
not-true e h = rw e at h

-- question 24 asks it of the whole table
abbrev class_of : Placed → Class
class_of c = c.class

module _ (limit : ℕ) (o : Objects) where
  unplaced : (j : ℕ) (cs : List Class) → map class_of (map (λ (c : Class). record { block = j; class = c }) cs) ≡ cs
  unplaced j [] = refl
  unplaced j (c ∷ cs) = ap (λ l. c ∷ l) (unplaced j cs)

  pub placed-table : (j : ℕ) (ps : List Package) → map class_of (placed_from limit o j ps) ≡ table limit o ps
  placed-table j [] = refl
  placed-table j (p ∷ ps) =
      map-append class_of (map (λ (c : Class). record { block = j; class = c }) (classes_of limit o p)) (placed_from limit o (j + 1) ps)
      ∙ rw (unplaced j (classes_of limit o p), placed-table (j + 1) ps)

  none-repeats : (seen : List Key) (l : List Placed) → none_twice (first_repeat seen l) ≡ accepted tt → repeats seen (map class_of l) ≡ false
  none-repeats seen [] h = refl
  none-repeats seen (c ∷ l) h = go (has_key seen c.class.key) (none-repeats (c.class.key ∷ seen) l) h
    where
      go : (b : Bool) → (none_twice (first_repeat (c.class.key ∷ seen) l) ≡ accepted tt → repeats (c.class.key ∷ seen) (map class_of l) ≡ false)
          → none_twice (or_else b c (first_repeat (c.class.key ∷ seen) l)) ≡ accepted tt
          → b || repeats (c.class.key ∷ seen) (map class_of l) ≡ false
      go true ih h = never (cc)
      go false ih h = ih h

  repeats-none : (seen : List Key) (l : List Placed) → repeats seen (map class_of l) ≡ false → none_twice (first_repeat seen l) ≡ accepted tt
  repeats-none seen [] h = refl
  repeats-none seen (c ∷ l) h =
      rw (or_first (has_key seen c.class.key) _ h) (repeats-none (c.class.key ∷ seen) l (or_second (has_key seen c.class.key) _ h))

  pub distinct-once : (j : ℕ) (ps : List Package) → none_twice (first_repeat [] (placed_from limit o j ps)) ≡ accepted tt → repeats [] (table limit o ps) ≡ false
  distinct-once j ps h = ap (repeats []) (sym (placed-table j ps)) ∙ none-repeats [] (placed_from limit o j ps) h

  pub once-distinct : (j : ℕ) (ps : List Package) → repeats [] (table limit o ps) ≡ false → none_twice (first_repeat [] (placed_from limit o j ps)) ≡ accepted tt
  once-distinct j ps h = repeats-none [] (placed_from limit o j ps) (ap (repeats []) (placed-table j ps) ∙ h)

-- ---- in any order

-- of the keys seen only counts which they are
repeats-seen : (cs : List Class) (s t : List Key) → ((k : Key) → has_key s k ≡ has_key t k) → repeats s cs ≡ repeats t cs
repeats-seen [] s t e = refl
repeats-seen (c ∷ cs) s t e = rw (e c.key, repeats-seen cs (c.key ∷ s) (c.key ∷ t) (λ k. rw (e k)))

seen-swap : (x y : Key) (s : List Key) (k : Key) → has_key (x ∷ y ∷ s) k ≡ has_key (y ∷ x ∷ s) k
seen-swap x y s k = or_swap (same_key x k) (same_key y k) (has_key s k)

swap-first : (s x y r : Bool) → x || ((s || y) || r) ≡ y || ((s || x) || r)
swap-first true true true r = refl
swap-first true true false r = refl
swap-first true false true r = refl
swap-first true false false r = refl
swap-first false true true r = refl
swap-first false true false r = refl
swap-first false false true r = refl
swap-first false false false r = refl

pub repeats_perm : (seen : List Key) {l m : List Class} → Perm l m → repeats seen l ≡ repeats seen m
repeats_perm seen same = refl
repeats_perm seen (keep {a} d) = rw (repeats_perm (a.key ∷ seen) d)
repeats_perm seen (swap {a} {b} {l}) =
    let moved = repeats-seen l (a.key ∷ b.key ∷ seen) (b.key ∷ a.key ∷ seen) (seen-swap a.key b.key seen) in
    rw (same_key-sym b.key a.key, moved)
    (swap-first (same_key a.key b.key) (has_key seen a.key) (has_key seen b.key) (repeats (b.key ∷ a.key ∷ seen) l))
repeats_perm seen (then d e) = repeats_perm seen d ∙ repeats_perm seen e

look-swap : (p q : Bool) (x y : Class) (z : Option Class) → (T p → T q → ⊥) → or_else p x (or_else q y z) ≡ or_else q y (or_else p x z)
look-swap true true x y z h = absurd (h tt tt)
look-swap true false x y z h = refl
look-swap false true x y z h = refl
look-swap false false x y z h = refl

-- where no key stands twice, the look-up doesn't see the order
look_at : (seen : List Key) (k : Key) {l m : List Class} → repeats seen l ≡ false → Perm l m → look l k ≡ look m k
look_at seen k h same = refl
look_at seen k h (keep {a} {l} d) = rw (look_at (a.key ∷ seen) k (or_second (has_key seen a.key) (repeats (a.key ∷ seen) l) h) d)
look_at seen k h (swap {a} {b} {l}) = look-swap (same_key a.key k) (same_key b.key k) a b (look l k) apart
  where
    apart : T (same_key a.key k) → T (same_key b.key k) → ⊥
    apart p q =
        let two = or_first (has_key (a.key ∷ seen) b.key) (repeats (b.key ∷ a.key ∷ seen) l) (or_second (has_key seen a.key) _ h) in
        not-true (or_first (same_key a.key b.key) (has_key seen b.key) two) (rw (same_key→eq a.key k p, same_key→eq b.key k q) (same_key-refl k))
look_at seen k h (then d e) = look_at seen k h d ∙ look_at seen k (sym (repeats_perm seen d) ∙ h) e

pub look_perm : {l m : List Class} → repeats [] l ≡ false → Perm l m → look m ≡ look l
look_perm h d = λ i k. sym (look_at [] k h d) i
