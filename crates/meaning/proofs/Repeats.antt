-- The first repeat of classes (document 01, question 24: "the first class [..] whose key an earlier one has") where one list of them stands
-- behind another. Assumes nothing.
use Rattle.std.specs.Prelude.{◌≡◌, refl, Bool, true, false, ◌||◌, List, [], ◌∷◌, ◌++◌, map, ℕ, suc, ◌+◌, length}
use Rattle.std.proofs.Common.{sym, ◌∙◌, append_assoc, arith}
use Rattle.std.proofs.Math.Bool.{or_assoc}
use Rattle.std.proofs.lemmas.List.{map-append}
use Rattle.std.proofs.Math.Option.{none, some}
use Rattle.base.specs.Find.{or_else}
use Rattle.base.specs.Never.{never}
use Rattle.scriptblock.specs.Script.{Objects}
use Rattle.meaning.specs.Key.{Key, same_key}
use Rattle.meaning.specs.Reference.{Package}
use Rattle.meaning.specs.Scan.{Class, classes_of}
use Rattle.meaning.specs.Call.{Placed, placed_from, has_key, first_repeat}
use Rattle.meaning.proofs.Table.{or_swap}
pub use Rattle.meaning.specs.Repeats.{keys_of}

-- which keys are among those of two lists
pub has_append : (l m : List Key) (k : Key) → has_key (l ++ m) k ≡ has_key l k || has_key m k
has_append [] m k = refl
has_append (x ∷ l) m k = rw (has_append l m k) (sym (or_assoc (same_key x k) (has_key l k) (has_key m k)))

pub has_both : (l m : List Placed) (k : Key) → has_key (keys_of (l ++ m)) k ≡ has_key (keys_of l) k || has_key (keys_of m) k
has_both l m k = rw (map-append (λ (x : Placed). x.class.key) l m) (has_append (keys_of l) (keys_of m) k)

pub has-moved : (x : Key) (l m : List Key) (k : Key) → has_key (l ++ x ∷ m) k ≡ has_key (x ∷ l ++ m) k
has-moved x l m k = rw (has_append l (x ∷ m) k, has_append l m k) (or_swap (has_key l k) (same_key x k) (has_key m k))

-- of the keys seen only counts which they are
pub repeat_seen : (l : List Placed) (s t : List Key) → ((k : Key) → has_key s k ≡ has_key t k) → first_repeat s l ≡ first_repeat t l
repeat_seen [] s t e = refl
repeat_seen (x ∷ l) s t e = rw (e x.class.key, repeat_seen l (x.class.key ∷ s) (x.class.key ∷ t) (λ k. rw (e k)))

-- a repeat stays the first, whatever follows
pub repeat_more : (s : List Key) (l m : List Placed) (x : Placed) → first_repeat s l ≡ some x → first_repeat s (l ++ m) ≡ some x
repeat_more s [] m x e = never (cc)
repeat_more s (y ∷ l) m x e = go (has_key s y.class.key) (repeat_more (y.class.key ∷ s) l m x) e
  where
    go : (b : Bool) → (first_repeat (y.class.key ∷ s) l ≡ some x → first_repeat (y.class.key ∷ s) (l ++ m) ≡ some x)
        → or_else b y (first_repeat (y.class.key ∷ s) l) ≡ some x → or_else b y (first_repeat (y.class.key ∷ s) (l ++ m)) ≡ some x
    go true ih e = e
    go false ih e = ih e

-- where there is none, it is that of what follows
pub repeat_next : (s : List Key) (l m : List Placed) → first_repeat s l ≡ none → first_repeat s (l ++ m) ≡ first_repeat (keys_of l ++ s) m
repeat_next s [] m e = refl
repeat_next s (y ∷ l) m e = go (has_key s y.class.key) (repeat_next (y.class.key ∷ s) l m) e
  where
    go : (b : Bool) → (first_repeat (y.class.key ∷ s) l ≡ none → first_repeat (y.class.key ∷ s) (l ++ m) ≡ first_repeat (keys_of l ++ y.class.key ∷ s) m)
        → or_else b y (first_repeat (y.class.key ∷ s) l) ≡ none
        → or_else b y (first_repeat (y.class.key ∷ s) (l ++ m)) ≡ first_repeat (y.class.key ∷ keys_of l ++ s) m
    go true ih e = never (cc)
    go false ih e = ih e ∙ repeat_seen m (keys_of l ++ y.class.key ∷ s) (y.class.key ∷ keys_of l ++ s) (has-moved y.class.key (keys_of l) s)

-- the classes of packages one behind another
pub placed_append : (limit : ℕ) (o : Objects) (j : ℕ) (ps qs : List Package)
    → placed_from limit o j (ps ++ qs) ≡ placed_from limit o j ps ++ placed_from limit o (j + length ps) qs
placed_append limit o j [] qs = let z : j + 0 ≡ j = omega arith in rw z
placed_append limit o j (p ∷ ps) qs =
    let z : j + suc (length ps) ≡ j + 1 + length ps = omega arith in
    let own : List Placed = map (λ (c : Class). record { block = j; class = c }) (classes_of limit o p) in
    rw (z, placed_append limit o (j + 1) ps qs) (sym (append_assoc own (placed_from limit o (j + 1) ps) (placed_from limit o (j + 1 + length ps) qs)))
