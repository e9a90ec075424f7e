-- Lists by their first i elements, for loops: what one element more brings. Assumes nothing.
use Rattle.std.specs.Prelude.{◌≡◌, refl, Bool, true, false, cond, List, [], ◌∷◌, ◌++◌, ℕ, suc, ◌+◌, ◌≤◌, ◌<◌, length, take, get_or}
use Rattle.std.proofs.Common.{ap, append_assoc, append-nil, arith, add-one, take-suc}
use Rattle.base.specs.Find.{kept, filter, flat, sum}

module _ {A B : Type 0} (f : A → List B) where
  pub flat_append : (l m : List A) → flat f (l ++ m) ≡ flat f l ++ flat f m
  flat_append [] m = refl
  flat_append (x ∷ l) m = rw (flat_append l m, append_assoc (f x) (flat f l) (flat f m))

  -- one element more
  pub flat-take : (l : List A) (i : ℕ) (d : A) → i < length l → flat f (take (i + 1) l) ≡ flat f (take i l) ++ f (get_or l i d)
  flat-take l i d h = rw (add-one i, take-suc l i d h, flat_append (take i l) (get_or l i d ∷ []), append-nil (f (get_or l i d)))

module _ {A : Type 0} (f : A → ℕ) where
  pub sum_append : (l m : List A) → sum f (l ++ m) ≡ sum f l + sum f m
  sum_append [] m = omega arith
  sum_append (x ∷ l) m = rw (sum_append l m) (omega arith)

  pub sum-take : (l : List A) (i : ℕ) (d : A) → i < length l → sum f (take (i + 1) l) ≡ sum f (take i l) + f (get_or l i d)
  sum-take l i d h = rw (add-one i, take-suc l i d h, sum_append (take i l) (get_or l i d ∷ [])) (omega arith)

  pub sum-filter : (t : A → Bool) (l : List A) → sum f (filter t l) ≡ sum (λ a. cond (t a) (f a) 0) l
  sum-filter t [] = refl
  sum-filter t (x ∷ l) = go (t x) (sum-filter t l)
    where
      go : (b : Bool) → sum f (filter t l) ≡ sum (λ a. cond (t a) (f a) 0) l → sum f (kept b x (filter t l)) ≡ cond b (f x) 0 + sum (λ a. cond (t a) (f a) 0) l
      go true e = rw e
      go false e = omega arith

module _ {A : Type 0} (t : A → Bool) where
  pub filter_append : (l m : List A) → filter t (l ++ m) ≡ filter t l ++ filter t m
  filter_append [] m = refl
  filter_append (x ∷ l) m = go (t x) (filter_append l m)
    where
      go : (b : Bool) → filter t (l ++ m) ≡ filter t l ++ filter t m → kept b x (filter t (l ++ m)) ≡ kept b x (filter t l) ++ filter t m
      go true e = ap (λ r. x ∷ r) e
      go false e = e

  pub filter-take : (l : List A) (i : ℕ) (d : A) → i < length l → filter t (take (i + 1) l) ≡ filter t (take i l) ++ kept (t (get_or l i d)) (get_or l i d) []
  filter-take l i d h = rw (add-one i, take-suc l i d h, filter_append (take i l) (get_or l i d ∷ []))

  -- how many pass
  pub length-filter : (l : List A) → length (filter t l) ≡ sum (λ a. cond (t a) 1 0) l
  length-filter [] = refl
  length-filter (x ∷ l) = go (t x) (length-filter l)
    where
      go : (b : Bool) → length (filter t l) ≡ sum (λ a. cond (t a) 1 0) l → length (kept b x (filter t l)) ≡ cond b 1 0 + sum (λ a. cond (t a) 1 0) l
      go true e = rw e (omega arith)
      go false e = omega arith

  pub filter-fewer : (l : List A) → length (filter t l) ≤ length l
  filter-fewer [] = omega arith
  filter-fewer (x ∷ l) = go (t x) (filter-fewer l)
    where
      go : (b : Bool) → length (filter t l) ≤ length l → length (kept b x (filter t l)) ≤ suc (length l)
      go true e = omega arith
      go false e = omega arith
