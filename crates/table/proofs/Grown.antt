-- One more entry in the tree, linked where a search for its key ends. Assumes nothing.
use mathlib.Core.Path.{◌≡◌, refl, ap, ap₂, ◌∙◌}
use mathlib.Core.Logic.{◌⊎◌, inl, inr, by_cases, ⊎_elim}
use mathlib.Core.Bool.{true}
use Prim.Native.Nat.{ℕ, ◌+◌, ◌-◌, ◌^◌, ◌≤◌, ◌<◌}
use native.Mathlib.Decide.{ℕ_discrete}
use native.Mathlib.Omega.{arith}
use Rattle.table.specs.EntryLaws.{key_is_lem, updated, updated-here, updated-before}
use Rattle.table.specs.Tree.{Place, head, below, In, stops, spot, At, top, side, Tree}
use Rattle.table.specs.TreeLaws.{stops-key, at_in, spot_end, spot-same}

-- two places are one, or not
same_head : (h g : ℕ) → (head h ≡ head g) ⊎ (head h ≡ head g → ⊥)
same_head h g = by_cases (ℕ_discrete h g) (λ (e : h ≡ g). inl (ap head e)) (λ (e : ¬ (h ≡ g)). inr (λ x. let y : h ≡ g = cc in e y))

same-side : (i s j r : ℕ) → (below i s ≡ below j r) ⊎ (below i s ≡ below j r → ⊥)
same-side i s j r =
    by_cases (ℕ_discrete i j)
    (λ (e : i ≡ j). by_cases (ℕ_discrete s r) (λ (f : s ≡ r). inl (ap₂ below e f)) (λ (f : ¬ (s ≡ r)). inr (λ x. let y : s ≡ r = cc in f y)))
    (λ (e : ¬ (i ≡ j)). inr (λ x. let y : i ≡ j = cc in e y))

pub same_place : (p q : Place) → (p ≡ q) ⊎ (p ≡ q → ⊥)
same_place (head h) (head g) = same_head h g
same_place (head h) (below j r) = inr (λ x. let z : ◌≡◌ {A = ℕ} 0 1 = cc in omega arith)
same_place (below i s) (head g) = inr (λ x. let z : ◌≡◌ {A = ℕ} 0 1 = cc in omega arith)
same_place (below i s) (below j r) = same-side i s j r

-- a place of one entry more is one of before, or a side of the new entry
in_more : (n k : ℕ) (p : Place) → In n (k + 1) p → In n k p ⊎ ((s : ℕ) × (s < 2) × (p ≡ below k s))
in_more n k (head h) i = inl i
in_more n k (below j s) i =
    by_cases (ℕ_discrete j k) (λ (e : j ≡ k). inr (s, i.1, ap (λ (x : ℕ). below x s) e)) (λ (e : ¬ (j ≡ k)). inl (omega arith, i.1))

-- the new entry's depth is d
module _ (depth lo hi : ℕ → ℕ) (link link' : Place → ℕ) (n k d : ℕ) (m : Place) (t : Tree depth lo hi link n k) (some : 0 < n)
    (fl : lo k < 2 ^ 64) (fh : hi k < 2 ^ 64) (here : spot n link lo hi (lo k) (hi k) ≡ m) (u : At depth lo hi n k (lo k) (hi k) d m)
    (null : link m ≡ 0) (new : link' m ≡ k + 1) (empty : (s : ℕ) → s < 2 → link' (below k s) ≡ 0)
    (kept : (q : Place) → In n k q → (q ≡ m → ⊥) → link' q ≡ link q) where
  at-kept : {a b e : ℕ} {p : Place} → At depth lo hi n k a b e p → At (updated depth k d) lo hi n (k + 1) a b e p
  at-kept (top h e) = top h e
  at-kept (side {i} h s e g r) = let x = updated-before depth k d i h in side {i = i} (omega arith) s (rw x e) (rw x g) (rw x r)

  linked : (q : Place) → In n k q → 0 < link q → link' q ≡ link q
  linked q i h = kept q i (λ (e : q ≡ m). omega (arith, ap link e))

  right-old : (p : Place) → In n k p → 0 < link' p
      → (link' p ≤ k + 1) × At (updated depth k d) lo hi n (k + 1) (lo (link' p - 1)) (hi (link' p - 1)) (updated depth k d (link' p - 1)) p
  right-old p i q =
      ⊎_elim
      (λ (e : p ≡ m).
      let x : link' p ≡ k + 1 = rw e new in
      let o : k + 1 - 1 ≡ k = omega arith in
      rw (x, o, updated-here depth k d, e) (omega arith, at-kept u))
      (λ (e : p ≡ m → ⊥).
      let x = kept p i e in
      let r = t.right p i (rw x at q) in
      let o : link p - 1 < k = let y : 0 < link p = rw x at q in omega arith in
      rw (x, updated-before depth k d (link p - 1) o) (omega arith, at-kept r.1))
      (same_place p m)

  finds-new : link' (spot n link' lo hi (lo k) (hi k)) ≡ k + 1
  finds-new =
      let o : k + 1 - 1 ≡ k = omega arith in
      let x : stops lo hi (lo k) (hi k) (k + 1) ≡ true =
      stops-key lo hi (lo k) (hi k) (k + 1) (omega arith) ∙ rw o (key_is_lem lo hi (lo k) (hi k) k refl refl) in
      rw (spot-same depth lo hi link n k t link' linked (lo k) (hi k) some (λ z. rw (here, new) x), here) new

  finds-old : (j : ℕ) → j < k → link' (spot n link' lo hi (lo j) (hi j)) ≡ j + 1
  finds-old j h =
      let f = t.finds j h in
      let i = at_in depth lo hi n k (spot_end depth lo hi link n k t (lo j) (hi j) some).at in
      let e = spot-same depth lo hi link n k t link' linked (lo j) (hi j) some (λ z. absurd (omega arith)) in
      rw (e, linked (spot n link lo hi (lo j) (hi j)) i (omega arith)) f

  pub tree-more : Tree (updated depth k d) lo hi link' n (k + 1)
  tree-more =
      record {
        some = λ _. some;
        fits = λ j h. by_cases (ℕ_discrete j k) (λ (e : j ≡ k). rw e (fl, fh)) (λ (e : ¬ (j ≡ k)). t.fits j (omega arith));
        right = λ p i q. ⊎_elim (λ o. right-old p o q) (λ o. absurd (omega (arith, ap link' o.2, empty o.0 o.1))) (in_more n k p i);
        finds = λ j h. by_cases (ℕ_discrete j k) (λ (e : j ≡ k). rw e finds-new) (λ (e : ¬ (j ≡ k)). finds-old j (omega arith));
      }
