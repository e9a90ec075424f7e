-- Laws of `seek`: which element it gives, and the search in steps. Assumes nothing.
use Rattle.std.specs.Prelude.{◌≡◌, Bool, true, false, List, [], ◌∷◌, ℕ, zero, suc, ◌+◌, ◌-◌, ◌≤◌, ◌<◌, length, get_or}
use Rattle.std.proofs.Math.Path.{refl}
use Rattle.std.proofs.Common.{◌∙◌, sub-one, arith}
use Rattle.base.specs.ReadingRows.{cells}
use Rattle.base.specs.Seek.{seek_from, seek}

module _ {A : Type 0} (f : A → Bool) where
  -- the first passes, or it does not
  pub seek-none : (i : ℕ) → seek_from i f [] ≡ 0
  unfolding seek_from
  seek-none i = refl

  pub seek-here : (i : ℕ) (x : A) (l : List A) → f x ≡ true → seek_from i f (x ∷ l) ≡ i + 1
  unfolding seek_from
  seek-here i x l e = rw e

  pub seek-next : (i : ℕ) (x : A) (l : List A) → f x ≡ false → seek_from i f (x ∷ l) ≡ seek_from (i + 1) f l
  unfolding seek_from
  seek-next i x l e = rw e

  -- none passes
  abbrev pub Never : A → List A → Type 0
  Never d l = (j : ℕ) → j < length l → f (get_or l j d) ≡ false

  -- the element of number k is the first that passes
  pub record First (d : A) (l : List A) (k : ℕ) : Type 0 where
    pub here : k < length l
    pub passes : f (get_or l k d) ≡ true
    pub before : (j : ℕ) → j < k → f (get_or l j d) ≡ false

module _ {A : Type 0} (f : A → Bool) (d : A) where
  -- what is to be found is found
  seek_no : (i : ℕ) (l : List A) → Never f d l → seek_from i f l ≡ 0
  seek_no i [] n = seek-none f i
  seek_no i (x ∷ l) n = seek-next f i x l (n 0 (omega arith)) ∙ seek_no (i + 1) l (λ j h. n (suc j) (omega arith))

  seek-yes : (i : ℕ) (l : List A) (k : ℕ) → First f d l k → seek_from i f l ≡ i + k + 1
  seek-yes i [] k g = absurd (omega (arith, g.here))
  seek-yes i (x ∷ l) zero g = seek-here f i x l g.passes ∙ omega arith
  seek-yes i (x ∷ l) (suc k) g =
      seek-next f i x l (g.before 0 (omega arith)) ∙ (seek-yes (i + 1) l k (record { here = omega (arith, g.here); passes = g.passes; before = λ j h. g.before (suc j) (omega arith) }) ∙ omega arith)

  -- what is found is what was to be found
  data Sought (i : ℕ) (l : List A) : ℕ → Type 0 where
    missing : Never f d l → Sought i l 0
    first : (k : ℕ) → First f d l k → Sought i l (i + k + 1)

  sought : (i : ℕ) (l : List A) → Sought i l (seek_from i f l)
  sought i [] = rw (seek-none f i) (missing (λ j h. absurd (omega arith)))
  sought i (x ∷ l) = go (f x) refl (sought (i + 1) l)
    where
      go : (t : Bool) → f x ≡ t → Sought (i + 1) l (seek_from (i + 1) f l) → Sought i (x ∷ l) (seek_from i f (x ∷ l))
      go true e s = rw (seek-here f i x l e) (let z : i + 1 ≡ i + 0 + 1 = omega arith in rw z (first 0 (record { here = omega arith; passes = e; before = λ j h. absurd (omega arith) })))
      go false e s = rw (seek-next f i x l e) (two (seek_from (i + 1) f l) s)
        where
          past : (j : ℕ) → ((k : ℕ) → suc k ≤ j → f (get_or l k d) ≡ false) → (k : ℕ) → k ≤ j → f (get_or (x ∷ l) k d) ≡ false
          past j n zero h = e
          past j n (suc k) h = n k h

          two : (r : ℕ) → Sought (i + 1) l r → Sought i (x ∷ l) r
          two r (missing n) = missing (λ j h. past (length l) (λ k g. n k (omega arith)) j (omega arith))
          two r (first k g) = let z : i + 1 + k + 1 ≡ i + suc k + 1 = omega arith in rw z (first (suc k) (record { here = omega (arith, g.here); passes = g.passes; before = λ j h. past k (λ m q. g.before m (omega arith)) j (omega arith) }))

  module _ (l : List A) where
    -- 0 exactly where none passes, k + 1 exactly where the element of number k is the first
    pub never-seek : Never f d l → seek f l ≡ 0
    never-seek n = seek_no 0 l n

    pub first-seek : (k : ℕ) → First f d l k → seek f l ≡ k + 1
    first-seek k g = seek-yes 0 l k g ∙ omega arith

    pub seek-never : seek f l ≡ 0 → Never f d l
    seek-never q = go (seek f l) (sought 0 l) q
      where
        go : (r : ℕ) → Sought 0 l r → r ≡ 0 → Never f d l
        go r (missing n) e = n
        go r (first k g) e = absurd (omega arith)

    pub seek-first : (k : ℕ) → seek f l ≡ k + 1 → First f d l k
    seek-first k q = go (seek f l) (sought 0 l) q
      where
        go : (r : ℕ) → Sought 0 l r → r ≡ k + 1 → First f d l k
        go r (missing n) e = absurd (omega arith)
        go r (first j g) e = let z : j ≡ k = omega arith in rw z at g

-- in records one after another, from one on: none is left; it passes; it does not
module _ {A : Type 0} (f : A → Bool) (g : ℕ → A) (size i at : ℕ) where
  pub cells-none : (n : ℕ) → n ≤ 0 → seek_from i f (cells g size at n) ≡ 0
  cells-none zero h = seek-none f i
  cells-none (suc n) h = absurd (omega arith)

  pub cells-here : (n : ℕ) → 0 < n → f (g at) ≡ true → seek_from i f (cells g size at n) ≡ i + 1
  cells-here zero h e = absurd (omega arith)
  cells-here (suc n) h e = seek-here f i (g at) (cells g size (at + size) n) e

  pub cells-next : (n : ℕ) → 0 < n → f (g at) ≡ false → seek_from i f (cells g size at n) ≡ seek_from (i + 1) f (cells g size (at + size) (n - 1))
  cells-next zero h e = absurd (omega arith)
  cells-next (suc n) h e = seek-next f i (g at) (cells g size (at + size) n) e ∙ rw (sub-one)
