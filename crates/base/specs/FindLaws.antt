-- Laws of `find`, `filter` and `flat`: which elements they give, and how long the whole is. Assumes nothing.
use Rattle.std.specs.Prelude.{◌≡◌, refl, ◌⊎◌, Bool, true, false, ℕ, ◌*◌, T, length}
use Rattle.std.proofs.Common.{ap, inl, inr, mul-suc, arith, length-append}
use mathlib.Core.List.Memᴰ
use mathlib.Core.List.{List, [], ◌∷◌, ◌++◌, append_assoc, Memᴰ}
use Rattle.std.proofs.Math.Option.{none, some}
use Rattle.base.specs.Never.{never}
use Rattle.base.specs.Find.{find, or_else, filter, kept, flat, sum}

pub none-some : {A B : Type 0} {a : A} → none ≡ some a → B
none-some e = never (cc)

module _ {A : Type 0} (f : A → Bool) where
  -- what is found is a member that passes
  pub find-some : (l : List A) (a : A) → find f l ≡ some a → Memᴰ a l × T (f a)
  find-some [] a e = none-some e
  find-some (x ∷ l) a e = go (f x) refl (find-some l a) e
    where
      go : (b : Bool) → f x ≡ b → (find f l ≡ some a → Memᴰ a l × T (f a)) → or_else b x (find f l) ≡ some a → Memᴰ a (x ∷ l) × T (f a)
      go true t ih e = let h : a ≡ x = cc in (Memᴰ.head h, rw (h, t) tt)
      go false t ih e = (Memᴰ.tail (ih e).0, (ih e).1)

  -- a member that passes is found, where all that pass equal it
  pub find-member : (l : List A) (a : A) → Memᴰ a l → T (f a) → ((b : A) → Memᴰ b l → T (f b) → b ≡ a) → find f l ≡ some a
  find-member [] a m t u = elim m [ ]
  find-member (x ∷ l) a m t u = go (f x) refl m (λ n. find-member l a n t (λ b m t. u b (Memᴰ.tail m) t))
    where
      go : (b : Bool) → f x ≡ b → Memᴰ a (x ∷ l) → (Memᴰ a l → find f l ≡ some a) → or_else b x (find f l) ≡ some a
      go true e m ih = ap some (u x (Memᴰ.head refl) (rw e tt))
      go false e (Memᴰ.head p) ih = absurd (rw (p, e) at t)
      go false e (Memᴰ.tail n) ih = ih n

  -- where none passes, none is found
  pub find_none : (l : List A) → ((b : A) → Memᴰ b l → T (f b) → ⊥) → find f l ≡ none
  find_none [] u = refl
  find_none (x ∷ l) u = go (f x) refl (find_none l (λ b m t. u b (Memᴰ.tail m) t))
    where
      go : (b : Bool) → f x ≡ b → find f l ≡ none → or_else b x (find f l) ≡ none
      go true e ih = absurd (u x (Memᴰ.head refl) (rw e tt))
      go false e ih = ih

  -- what is kept is a member that passes
  pub filter-some : (l : List A) (a : A) → Memᴰ a (filter f l) → Memᴰ a l × T (f a)
  filter-some [] a m = elim m [ ]
  filter-some (x ∷ l) a m = go (f x) refl (filter-some l a) m
    where
      go : (b : Bool) → f x ≡ b → (Memᴰ a (filter f l) → Memᴰ a l × T (f a)) → Memᴰ a (kept b x (filter f l)) → Memᴰ a (x ∷ l) × T (f a)
      go true e ih (Memᴰ.head p) = (Memᴰ.head p, rw (p, e) tt)
      go true e ih (Memᴰ.tail m) = (Memᴰ.tail (ih m).0, (ih m).1)
      go false e ih m = (Memᴰ.tail (ih m).0, (ih m).1)

module _ {A B : Type 0} (f : A → List B) where
  -- what stands in the whole stands in what one element brings
  pub flat-some : (l : List A) {b : B} → Memᴰ b (flat f l) → (a : A) × Memᴰ a l × Memᴰ b (f a)
  flat-some [] {b = b} m = elim m [ ]
  flat-some (x ∷ l) {b} m = go (Memᴰ.append_cases (f x) m) (λ n. flat-some l n)
    where
      go : Memᴰ b (f x) ⊎ Memᴰ b (flat f l) → (Memᴰ b (flat f l) → (a : A) × Memᴰ a l × Memᴰ b (f a))
          → (a : A) × Memᴰ a (x ∷ l) × Memᴰ b (f a)
      go (inl n) ih = (x, Memᴰ.head refl, n)
      go (inr n) ih = let (a, m, n) = ih n in (a, Memᴰ.tail m, n)

  -- what an element brings stands in the whole
  pub flat-member : {a : A} {l : List A} → Memᴰ a l → (front : List B) × (back : List B) × (flat f l ≡ front ++ f a ++ back)
  flat-member {a} (Memᴰ.head {xs} p) = ([], flat f xs, rw p)
  flat-member {a} (Memᴰ.tail {x} {xs} m) =
      let (front, back, e) = flat-member m in
      (f x ++ front, back, rw (e, ← append_assoc (f x) (front ++ f a) back, append_assoc (f x) front (f a)))

  pub length-flat : (l : List A) → length (flat f l) ≡ sum (λ a. length (f a)) l
  length-flat [] = refl
  length-flat (x ∷ l) = rw (length-append, length-flat l)

  -- where each element brings as many
  pub length-each : (size : ℕ) → ((a : A) → length (f a) ≡ size) → (l : List A) → length (flat f l) ≡ size * length l
  length-each size one [] = omega arith
  length-each size one (x ∷ l) = rw (length-append (f x) (flat f l), one x, length-each size one l, mul-suc size (length l)) (omega arith)

module _ {A : Type 0} (f g : A → ℕ) (same : (a : A) → f a ≡ g a) where
  pub sum_same : (l : List A) → sum f l ≡ sum g l
  sum_same [] = refl
  sum_same (a ∷ l) = rw (same a, sum_same l)
