-- Laws of the first class whose key an earlier one has: it stays the first whatever is found behind it. Assumes nothing.
use Rattle.std.specs.Prelude.{◌≡◌, refl, ◌⊎◌, Bool, true, false, ◌||◌, List, [], ◌∷◌, ◌++◌, map, ℕ, zero, suc, ◌<◌, length}
use Rattle.std.proofs.Common.{inl, inr, arith}
use Rattle.std.proofs.Math.Option.{Option, none, some}
use Rattle.std.proofs.lemmas.List.{length-map}
use Rattle.base.specs.Find.{or_else}
use Rattle.base.specs.Never.{never}
use Rattle.meaning.specs.Key.{Key, same_key}
use Rattle.meaning.specs.KeyLaws.{same_key-true}
use Rattle.meaning.specs.Scan.{Class}
use Rattle.meaning.specs.Call.{refused_in, Placed, has_key, first_repeat, none_twice}
use Rattle.meaning.proofs.Repeats.{repeat_more}
use Rattle.resolve.specs.Classes.{class_no, Stands}

-- the classes of some that have their blocks
abbrev class_of : Placed → Class
class_of x = x.class

-- what was refused stays so
pub twice-more : (xs ys : List Placed) (q j : ℕ) → none_twice (first_repeat [] xs) ≡ refused_in q j → none_twice (first_repeat [] (xs ++ ys)) ≡ refused_in q j
twice-more xs ys q j e = go (first_repeat [] xs) refl e
  where
    go : (o : Option Placed) → first_repeat [] xs ≡ o → none_twice o ≡ refused_in q j → none_twice (first_repeat [] (xs ++ ys)) ≡ refused_in q j
    go none r e = never (cc)
    go (some x) r e = rw (repeat_more [] xs ys x r) e

-- ---- one more, whose key an earlier one has

either : (x y : Bool) → (x ≡ true) ⊎ (y ≡ true) → x || y ≡ true
either true y h = refl
either false y (inl h) = never (cc)
either false y (inr h) = h

module _ (x : Placed) where
  -- a class before it has its key: one of those seen, or one of these
  abbrev Earlier : List Key → List Placed → Type 0
  Earlier seen xs = (has_key seen x.class.key ≡ true) ⊎ ((i : ℕ) × (i < length xs) × ((class_no (map class_of xs) i).key ≡ x.class.key))

  earlier-next : (seen : List Key) (c : Placed) (cs : List Placed) → Earlier seen (c ∷ cs) → Earlier (c.class.key ∷ seen) cs
  earlier-next seen c cs (inl h) = inl (either (same_key c.class.key x.class.key) (has_key seen x.class.key) (inr h))
  earlier-next seen c cs (inr (zero, l, e)) = inl (either (same_key c.class.key x.class.key) (has_key seen x.class.key) (inl (same_key-true c.class.key x.class.key e)))
  earlier-next seen c cs (inr (suc i, l, e)) = inr (i, omega arith, e)

  repeat_last : (seen : List Key) (xs : List Placed) → first_repeat seen xs ≡ none → Earlier seen xs → first_repeat seen (xs ++ (x ∷ [])) ≡ some x
  repeat_last seen [] e (inl h) = rw h
  repeat_last seen [] e (inr (i, l, k)) = absurd (omega arith)
  repeat_last seen (c ∷ cs) e k = go (has_key seen c.class.key) e (λ r. repeat_last (c.class.key ∷ seen) cs r (earlier-next seen c cs k))
    where
      go : (t : Bool) → or_else t c (first_repeat (c.class.key ∷ seen) cs) ≡ none
          → (first_repeat (c.class.key ∷ seen) cs ≡ none → first_repeat (c.class.key ∷ seen) (cs ++ (x ∷ [])) ≡ some x)
          → or_else t c (first_repeat (c.class.key ∷ seen) (cs ++ (x ∷ []))) ≡ some x
      go true e ih = never (cc)
      go false e ih = ih e

pub twice-last : (xs : List Placed) (x : Placed) → first_repeat [] xs ≡ none → Stands (map class_of xs) x.class
    → none_twice (first_repeat [] (xs ++ (x ∷ []))) ≡ refused_in 24 x.block
twice-last xs x e k =
    rw (repeat_last x [] xs e (inr (k.number, rw (length-map xs class_of) at k.inside, k.same)))
