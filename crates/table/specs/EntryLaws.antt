-- Laws of entries. Assumes nothing.
use Rattle.std.specs.Prelude.{◌≡◌, Bool, ◌&&◌}
use Rattle.std.proofs.Math.Path.{refl, sym}
use Rattle.std.proofs.Common.{ap, ◌∙◌}
use Rattle.std.proofs.Math.Logic.{by_cases}
use Rattle.std.proofs.Math.Bool.{true, false, cond}
use Rattle.std.proofs.lemmas.Bool.{false≢true}
use Prim.Native.Nat.{ℕ, zero, suc, ◌+◌, ◌-◌, ◌≤◌, ◌<◌}
use Rattle.std.proofs.Math.Decide.{ℕ_discrete, dec_lt}
use native.Mathlib.Omega.{arith}
use borrow.Author.Tests.{lt-ltb, le-ltb, eqb-true, eq-eqb, ne_eqb}
use Rattle.std.proofs.Math.Dec.{eqb}
use Rattle.table.specs.Entries.{key_is, find, Distinct, repeats, first, first_repeat}

-- ---- a key

module _ (lo hi : ℕ → ℕ) (a b : ℕ) where
  pub key_is_lem : (i : ℕ) → lo i ≡ a → hi i ≡ b → key_is lo hi a b i ≡ true
  unfolding key_is
  key_is_lem i p q = rw (eq-eqb (lo i) a p, eq-eqb (hi i) b q)

  pub key-parts : (i : ℕ) → key_is lo hi a b i ≡ true → (lo i ≡ a) × (hi i ≡ b)
  unfolding key_is
  key-parts i e = go (eqb (lo i) a) refl e
    where
      go : (t : Bool) → eqb (lo i) a ≡ t → (t && eqb (hi i) b) ≡ true → (lo i ≡ a) × (hi i ≡ b)
      go true f e = (eqb-true (lo i) a f, eqb-true (hi i) b e)
      go false f e = absurd (false≢true e)

  -- ---- what a look-up answers

  -- there is nothing to find among none
  pub find-zero : (k : ℕ) → k ≡ 0 → 0 ≡ find lo hi a b k
  unfolding find
  find-zero k e = rw e

  -- it is the number of an entry and 1, or 0
  pub find-le : (k : ℕ) → find lo hi a b k ≤ k
  unfolding find
  find-le zero = omega arith
  find-le (suc k) = go (key_is lo hi a b k) (find-le k)
    where
      go : (t : Bool) → find lo hi a b k ≤ k → cond t (suc k) (find lo hi a b k) ≤ suc k
      go true h = omega arith
      go false h = omega arith

  -- the entry that is found has the key
  pub find-key : (k : ℕ) → 0 < find lo hi a b k → (lo (find lo hi a b k - 1) ≡ a) × (hi (find lo hi a b k - 1) ≡ b)
  unfolding find
  find-key zero h = absurd (omega arith)
  find-key (suc k) h = go (key_is lo hi a b k) refl (find-key k) h
    where
      go : (t : Bool) → key_is lo hi a b k ≡ t → (0 < find lo hi a b k → (lo (find lo hi a b k - 1) ≡ a) × (hi (find lo hi a b k - 1) ≡ b))
          → 0 < cond t (suc k) (find lo hi a b k) → (lo (cond t (suc k) (find lo hi a b k) - 1) ≡ a) × (hi (cond t (suc k) (find lo hi a b k) - 1) ≡ b)
      go true e r h = let s : suc k - 1 ≡ k = omega arith in rw s (key-parts k e)
      go false e r h = r h

  -- no entry behind it has the key
  pub find-above : (k i : ℕ) → i < k → lo i ≡ a → hi i ≡ b → i < find lo hi a b k
  unfolding find
  find-above zero i h p q = absurd (omega arith)
  find-above (suc k) i h p q = go (key_is lo hi a b k) refl (find-above k i)
    where
      go : (t : Bool) → key_is lo hi a b k ≡ t → (i < k → lo i ≡ a → hi i ≡ b → i < find lo hi a b k) → i < cond t (suc k) (find lo hi a b k)
      go true e r = h
      go false e r =
          by_cases (ℕ_discrete i k)
          (λ (d : i ≡ k). absurd (false≢true (sym e ∙ key_is_lem k (ap lo (sym d) ∙ p) (ap hi (sym d) ∙ q))))
          (λ (d : ¬ (i ≡ k)). r (omega arith) p q)

  -- where it is 0 no entry has the key
  pub find_none : (k : ℕ) → find lo hi a b k ≡ 0 → (i : ℕ) → i < k → lo i ≡ a → hi i ≡ b → ⊥
  find_none k e i h p q = omega (arith, find-above k i h p q)

  -- where an entry has the key and no other has, it is that entry
  pub find-only : (k : ℕ) → Distinct lo hi k → (i : ℕ) → i < k → lo i ≡ a → hi i ≡ b → find lo hi a b k ≡ i + 1
  find-only k d i h p q =
      let f = find lo hi a b k in
      let above : i < f = find-above k i h p q in
      let s = find-key k (omega arith) in
      by_cases (dec_lt i (f - 1))
      (λ (l : i < f - 1). absurd (d.apart i (f - 1) l (omega (arith, find-le k)) (p ∙ sym s.0) (q ∙ sym s.1)))
      (λ (l : ¬ (i < f - 1)). omega arith)

-- ---- entered in order

module _ (lo hi : ℕ → ℕ) where
  pub distinct_none : Distinct lo hi 0
  distinct_none = record { apart = λ i j h l. absurd (omega arith) }

  -- an entry whose key (a, b) is not found among those before it
  pub distinct_more : {k a b r : ℕ} → Distinct lo hi k → a ≡ lo k → b ≡ hi k → r ≡ find lo hi a b k → r ≡ 0 → Distinct lo hi (k + 1)
  distinct_more {k} {a} {b} d ea eb f z =
      record {
        apart = λ i j h l p q. by_cases (ℕ_discrete j k)
            (λ (s : j ≡ k). find_none lo hi a b k (sym f ∙ z) i (omega arith) (p ∙ ap lo s ∙ sym ea) (q ∙ ap hi s ∙ sym eb))
            (λ (s : ¬ (j ≡ k)). d.apart i j h (omega arith) p q);
      }

  -- the entries before i repeat no key
  not-before : (i : ℕ) → Distinct lo hi i → (j : ℕ) → j < i → repeats lo hi j ≡ false
  unfolding repeats
  not-before i d j h =
      let f = find lo hi (lo j) (hi j) j in
      le-ltb 0 f (by_cases (dec_lt 0 f)
      (λ (l : 0 < f). let s = find-key lo hi (lo j) (hi j) j l in absurd (d.apart (f - 1) j (omega (arith, find-le lo hi (lo j) (hi j) j)) h s.0 s.1))
      (λ (l : ¬ (0 < f)). omega arith))

  skip : (p : ℕ → Bool) (m i k : ℕ) → ((j : ℕ) → i ≤ j → j < i + m → p j ≡ false) → first p i (m + k) ≡ first p (i + m) k
  unfolding first
  skip p zero i k h = let r : 0 + k ≡ k = omega arith in let s : i + 0 ≡ i = omega arith in rw (r, s)
  skip p (suc m) i k h =
      let r : suc m + k ≡ suc (m + k) = omega arith in
      let s : i + suc m ≡ i + 1 + m = omega arith in
      rw (r, s, first, h i (omega arith) (omega arith)) (skip p m (i + 1) k (λ j l u. h j (omega arith) (omega arith)))

  -- the first that is found among those before it is the first whose key an earlier one has
  pub first_repeat_lem : {k i a b r : ℕ} → Distinct lo hi i → i < k → a ≡ lo i → b ≡ hi i → r ≡ find lo hi a b i → 0 < r → i ≡ first_repeat lo hi k
  unfolding first_repeat first repeats
  first_repeat_lem {k} {i} {a} {b} {r} d h ea eb f p =
      let e : k ≡ i + suc (k - (i + 1)) = omega arith in
      let s : 0 + i ≡ i = omega arith in
      let g : r ≡ find lo hi (lo i) (hi i) i = f ∙ rw (ea, eb) in
      let t : repeats lo hi i ≡ true = lt-ltb 0 (find lo hi (lo i) (hi i) i) (omega arith) in
      sym (ap (first (repeats lo hi) 0) e ∙ skip (repeats lo hi) i 0 (suc (k - (i + 1))) (λ j l u. not-before i d j (omega arith)) ∙ rw (s, first, t))

  -- where none is found no key stands twice
  pub no_repeat : {k : ℕ} → Distinct lo hi k → k ≡ first_repeat lo hi k
  unfolding first_repeat first
  no_repeat {k} d =
      let r : k ≡ k + 0 = omega arith in
      sym (ap (first (repeats lo hi) 0) r ∙ skip (repeats lo hi) k 0 0 (λ j l u. not-before k d j (omega arith)) ∙ omega arith)

-- ---- a function of the entry's number, with another value at k

abbrev pub updated : (ℕ → ℕ) → ℕ → ℕ → ℕ → ℕ
updated f k x i = cond (eqb i k) x (f i)

module _ (f : ℕ → ℕ) (k x : ℕ) where
  pub updated-here : updated f k x k ≡ x
  updated-here = rw (eq-eqb k k refl)

  pub updated-before : (i : ℕ) → i < k → updated f k x i ≡ f i
  updated-before i h = rw (ne_eqb i k (omega arith))
