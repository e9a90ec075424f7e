-- Which question an entry fails first (10, 11, 12): entry by entry, so that a loop, or a look-up table, finds the first fault. Assumes nothing.
use Rattle.std.proofs.Math.Path.{◌≡◌, refl}
use Rattle.std.proofs.Common.{sym, ◌∙◌, mul-suc, suc-add, add-one, sub-one}
use mathlib.Core.List.{List, [], ◌∷◌, ◌++◌}
use Rattle.std.specs.Prelude.{Bool, not, ◌&&◌, cond, length, get_or}
use Rattle.std.proofs.Math.Bool.{true, false}
use Prim.Native.Nat.{ℕ, zero, suc, ◌+◌, ◌*◌, ◌-◌, ◌≤◌, ◌<◌}
use native.Mathlib.Omega.{arith}
use Rattle.std.proofs.Math.Decide.{ℕ_discrete}
use borrow.Author.Tests.{lt-ltb, le-ltb, eq-eqb, ne_eqb, ltb-true, eqb-true}
use Rattle.std.proofs.Math.Dec.{ltb, eqb}
use Rattle.base.specs.Index.{kind}
use Rattle.base.specs.Reading.{onto}
use Rattle.base.specs.ReadingRows.{cells, cells_at, cells-length}
use Rattle.scriptblock.specs.Script.{fresh}
use Rattle.scriptblock.specs.ScriptAnswers.{entry_at, no_entry, fault_of, fault_on, fresh_at, fault_at}
use Rattle.scriptblock.specs.declared.script.Entry.{Entry}
use Rattle.scriptblock.specs.declared.script.Layout.{Layout}

-- ---- an entry by itself
module _ (e : Entry) (names : ℕ) where
  pub fault-index : names ≤ e.index → fault_of e names ≡ 10
  unfolding fault_of
  fault-index h = rw (le-ltb e.index names h)

  pub fault-kind : e.index < names → (kind e.global ≡ 1 → ⊥) → fault_of e names ≡ 11
  unfolding fault_of
  fault-kind h k = rw (lt-ltb e.index names h, ne_eqb (kind e.global) 1 k)

  pub fault_no : e.index < names → kind e.global ≡ 1 → fault_of e names ≡ 0
  unfolding fault_of
  fault_no h k = rw (lt-ltb e.index names h, eq-eqb (kind e.global) 1 k)

  pub no_fault : fault_of e names ≡ 0 → (e.index < names) × (kind e.global ≡ 1)
  unfolding fault_of
  no_fault q = go (ltb e.index names) (eqb (kind e.global) 1) refl refl q
    where
      go : (a b : Bool) → ltb e.index names ≡ a → eqb (kind e.global) 1 ≡ b → ◌≡◌ {A = ℕ} (cond a (cond b 0 11) 10) 0
          → (e.index < names) × (kind e.global ≡ 1)
      go true true a b q = (ltb-true e.index names a, eqb-true (kind e.global) 1 b)
      go true false a b q = absurd (omega arith)
      go false b a c q = absurd (omega arith)

-- ---- new among others: no entry of a list has the global index
module _ (g : ℕ) where
  fresh-onto : (xs ys : List Entry) → fresh g (onto xs ys) ≡ (fresh g xs && fresh g ys)
  fresh-onto [] ys = refl
  fresh-onto (x ∷ xs) ys = fresh-onto xs (x ∷ ys) ∙ swap (fresh g xs) (not (eqb g x.global)) (fresh g ys)
    where
      swap : (a b c : Bool) → (a && (b && c)) ≡ ((b && a) && c)
      swap true true c = refl
      swap true false c = refl
      swap false true c = refl
      swap false false c = refl

  -- in either order
  pub fresh_reversed : (xs : List Entry) → fresh g (onto xs []) ≡ fresh g xs
  fresh_reversed xs = fresh-onto xs [] ∙ last (fresh g xs)
    where
      last : (a : Bool) → (a && true) ≡ a
      last true = refl
      last false = refl

  pub fresh-none : (es : List Entry) → fresh g es ≡ true → (j : ℕ) → j < length es → (get_or es j no_entry).global ≡ g → ⊥
  fresh-none [] q j h e = absurd (omega arith)
  fresh-none (x ∷ es) q j h e = go (ℕ_discrete g x.global) j h e (fresh-none es)
    where
      go : Dec (g ≡ x.global) → (j : ℕ) → j < suc (length es) → (get_or (x ∷ es) j no_entry).global ≡ g
          → (fresh g es ≡ true → (j : ℕ) → j < length es → (get_or es j no_entry).global ≡ g → ⊥) → ⊥
      go (yes y) j h e ih = let r = rw (eq-eqb g x.global y) at q in let z : ◌≡◌ {A = ℕ} 0 1 = cc in omega arith
      go (no n) zero h e ih = n (sym e)
      go (no n) (suc j) h e ih = ih (rw (ne_eqb g x.global n) at q) j (omega arith) e

  pub none-fresh : (es : List Entry) → ((j : ℕ) → j < length es → (get_or es j no_entry).global ≡ g → ⊥) → fresh g es ≡ true
  none-fresh [] f = refl
  none-fresh (x ∷ es) f = rw (ne_eqb g x.global (λ e. f 0 (omega arith) (sym e))) (none-fresh es (λ j h. f (suc j) (omega arith)))

  pub seen-fresh : (es : List Entry) (j : ℕ) → j < length es → (get_or es j no_entry).global ≡ g → fresh g es ≡ false
  seen-fresh es j h e = go (fresh g es) refl
    where
      go : (t : Bool) → fresh g es ≡ t → t ≡ false
      go true q = absurd (fresh-none es q j h e)
      go false q = refl

-- the same by position: none of the first n entries has the global index
module _ (s : List ℕ) (from n g : ℕ) where
  pub fresh-all : fresh_at s from n g ≡ true → (j : ℕ) → j < n → (entry_at s (from + 32 * j)).global ≡ g → ⊥
  unfolding fresh_at
  fresh-all q j h e =
      fresh-none g (cells (entry_at s) 32 from n) q j (rw (cells-length (entry_at s) 32 from n) h) (rw (cells_at (entry_at s) 32 from n j no_entry h) e)

  pub all-fresh : ((j : ℕ) → j < n → (entry_at s (from + 32 * j)).global ≡ g → ⊥) → fresh_at s from n g ≡ true
  unfolding fresh_at
  all-fresh f =
      none-fresh g (cells (entry_at s) 32 from n) λ j h e.
      let k : j < n = rw (cells-length (entry_at s) 32 from n) at h in
      f j k (rw (cells_at (entry_at s) 32 from n j no_entry k) at e)

  pub fresh-seen : (j : ℕ) → j < n → (entry_at s (from + 32 * j)).global ≡ g → fresh_at s from n g ≡ false
  unfolding fresh_at
  fresh-seen j h e =
      seen-fresh g (cells (entry_at s) 32 from n) j (rw (cells-length (entry_at s) 32 from n) h) (rw (cells_at (entry_at s) 32 from n j no_entry h) e)

-- the entries from one on: none is left; one has the global index; one has not
module _ (s : List ℕ) (g : ℕ) where
  pub fresh_end : (at k : ℕ) → k ≤ 0 → fresh_at s at k g ≡ true
  unfolding fresh_at
  fresh_end at zero h = refl
  fresh_end at (suc k) h = absurd (omega arith)

  pub fresh_fail : (at k : ℕ) → 0 < k → (entry_at s at).global ≡ g → fresh_at s at k g ≡ false
  unfolding fresh_at
  fresh_fail at zero h e = absurd (omega arith)
  fresh_fail at (suc k) h e = rw (eq-eqb g (entry_at s at).global (sym e))

  pub fresh-pass : (at k : ℕ) → 0 < k → ((entry_at s at).global ≡ g → ⊥) → fresh_at s at k g ≡ fresh_at s (at + 32) (k - 1) g
  unfolding fresh_at
  fresh-pass at zero h n = absurd (omega arith)
  fresh-pass at (suc k) h n = rw (ne_eqb g (entry_at s at).global (λ e. n (sym e)), sub-one)

-- ---- the first fault of a list, and of the rest of it
module _ (names : ℕ) where
  -- the first of a list's two parts
  pub fault_append : (seen xs ys : List Entry)
      → fault_on names seen (xs ++ ys) ≡ cond (eqb (fault_on names seen xs) 0) (fault_on names (onto xs seen) ys) (fault_on names seen xs)
  fault_append seen [] ys = refl
  fault_append seen (x ∷ xs) ys = go (eqb (fault_of x names) 0) refl (fresh x.global seen) _ _ _ (fault_append (x ∷ seen) xs ys)
    where
      go : (t : Bool) → eqb (fault_of x names) 0 ≡ t → (u : Bool) (a q r : ℕ) → a ≡ cond (eqb r 0) q r
          → cond t (cond u a 12) (fault_of x names) ≡ cond (eqb (cond t (cond u r 12) (fault_of x names)) 0) q (cond t (cond u r 12) (fault_of x names))
      go true e true a q r h = h
      go true e false a q r h = refl
      go false e u a q r h = rw e

module _ {A : Type 0} where
  cells-last : (f : ℕ → A) (size at n : ℕ) (d : List A) → onto (cells f size at (n + 1)) d ≡ f (at + size * n) ∷ onto (cells f size at n) d
  cells-last f size at zero d = let e : at + size * 0 ≡ at = omega arith in rw e
  cells-last f size at (suc n) d =
      let e : at + size + size * n ≡ at + size * suc n = rw (mul-suc size n) (omega arith) in
      rw (suc-add n 1) (cells-last f size (at + size) n (f at ∷ d) ∙ rw e)

-- the first question that entry i or one behind it fails, after the i before it
unfoldable pub fault_from : List ℕ → Layout → ℕ → ℕ
fault_from s l i = fault_on l.names.count (onto (cells (entry_at s) 32 l.entries i) []) (cells (entry_at s) 32 (l.entries + 32 * i) (l.count - i))

-- entry i of a layout
abbrev pub entry_of : List ℕ → Layout → ℕ → Entry
entry_of s l i = entry_at s (l.entries + 32 * i)

module _ (s : List ℕ) (l : Layout) where
  pub fault-first : fault_at s l ≡ fault_from s l 0
  unfolding fault_at fault_from
  fault-first =
      let e : l.entries + 32 * 0 ≡ l.entries = omega arith in
      let f : l.count - 0 ≡ l.count = omega arith in
      rw (e, f)

  -- none is left
  pub fault-none : (i : ℕ) → l.count ≤ i → fault_from s l i ≡ 0
  unfolding fault_from
  fault-none i h = let e : l.count - i ≡ 0 = omega arith in rw e

  module _ (i : ℕ) (h : i < l.count) where
    pub fault-step : fault_from s l i
        ≡ cond (eqb (fault_of (entry_of s l i) l.names.count) 0)
        (cond (fresh_at s l.entries i (entry_of s l i).global) (fault_from s l (i + 1)) 12) (fault_of (entry_of s l i) l.names.count)
    unfolding fault_from fresh_at
    fault-step =
        let e : l.count - i ≡ suc (l.count - (i + 1)) = omega arith in
        let f : l.entries + 32 * i + 32 ≡ l.entries + 32 * (i + 1) = omega arith in
        rw (e, fresh_reversed (entry_of s l i).global (cells (entry_at s) 32 l.entries i), cells-last (entry_at s) 32 l.entries i [], f)

    -- with the entry e that was read there
    module _ {e : Entry} (is : e ≡ entry_of s l i) where
      -- it fails by itself
      pub fault-own : (fault_of e l.names.count ≡ 0 → ⊥) → fault_from s l i ≡ fault_of e l.names.count
      fault-own n = fault-step ∙ rw (← is, ne_eqb (fault_of e l.names.count) 0 n)

      module _ (own : fault_of e l.names.count ≡ 0) where
        -- one before it has its global index
        pub fault-seen : fresh_at s l.entries i e.global ≡ false → fault_from s l i ≡ 12
        fault-seen q = fault-step ∙ rw (← is, own, q)

        -- it fails none
        pub fault-next : fresh_at s l.entries i e.global ≡ true → fault_from s l i ≡ fault_from s l (i + 1)
        fault-next q = fault-step ∙ rw (← is, own, q)

    -- no fault from it on: none of its own, its global index is new, and none behind it
    fault-over : fault_from s l i ≡ 0
        → (fault_of (entry_of s l i) l.names.count ≡ 0) × (fresh_at s l.entries i (entry_of s l i).global ≡ true) × (fault_from s l (i + 1) ≡ 0)
    fault-over q =
        go (fault_of (entry_of s l i) l.names.count) (fresh_at s l.entries i (entry_of s l i).global) (fault_from s l (i + 1)) (sym fault-step ∙ q)
      where
        go : (x : ℕ) (t : Bool) (r : ℕ) → cond (eqb x 0) (cond t r 12) x ≡ 0 → (x ≡ 0) × (t ≡ true) × (r ≡ 0)
        go zero true r q = (refl, refl, q)
        go zero false r q = absurd (omega arith)
        go (suc x) t r q = let z : suc x ≡ 0 = rw (ne_eqb (suc x) 0 (λ e. omega arith)) at q in absurd (omega arith)

  fault_upto : fault_at s l ≡ 0 → (i : ℕ) → i ≤ l.count → fault_from s l i ≡ 0
  fault_upto q zero h = sym fault-first ∙ q
  fault_upto q (suc i) h = rw (← add-one i) (fault-over i (omega arith) (fault_upto q i (omega arith))).2

  -- no fault at all, entry by entry
  module _ (q : fault_at s l ≡ 0) (i : ℕ) (h : i < l.count) where
    pub clear-own : fault_of (entry_of s l i) l.names.count ≡ 0
    clear-own = (fault-over i h (fault_upto q i (omega arith))).0

    pub clear-new : fresh_at s l.entries i (entry_of s l i).global ≡ true
    clear-new = (fault-over i h (fault_upto q i (omega arith))).1
