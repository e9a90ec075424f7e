-- Laws of the tree: where a search ends, and what a change of links leaves. Assumes nothing.
use Rattle.std.specs.Prelude.{◌≡◌, Bool, cond}
use Rattle.std.proofs.Math.Path.{refl, sym}
use Rattle.std.proofs.Common.{◌∙◌, div-lt_iff_lt-mul, mod-lt, mul-lt-mul_of_pos_right, mul_comm, pow_pos, shr_lt}
use Rattle.std.proofs.Math.Logic.{by_cases}
use Rattle.std.proofs.Math.Bool.{true, false}
use Prim.Native.Nat.{ℕ, zero, suc, ◌+◌, ◌-◌, ◌^◌, ◌≤◌, ◌<◌}
use Rattle.std.proofs.Math.Decide.{dec_lt}
use native.Mathlib.Omega.{arith}
use Rattle.city.specs.Word.{mulw}
use Rattle.table.specs.Entries.{key_is, find, Distinct}
use Rattle.table.specs.EntryLaws.{key_is_lem, key-parts, find-le, find-key, find-above}
use Rattle.table.specs.Tree.{turn, Agree, Place, head, below, In, bucket, stops, walk, spot, At, top, side, Tree}
use Rattle.table.specs.TurnLaws.{turn-lt, agree-none, agree-join, agree-all}

pub bucket-lt : (n a b : ℕ) → 0 < n → bucket n a b < n
unfolding bucket mulw
bucket-lt n a b h =
    let x = shr_lt 32 32 (mod-lt _ (pow_pos 64)) in
    (div-lt_iff_lt-mul (pow_pos 32)).1 (rw (mul_comm n (2 ^ 32)) (mul-lt-mul_of_pos_right x h))

-- ---- steps of a search

module _ (lo hi : ℕ → ℕ) (a b : ℕ) where
  pub stops-none : (c : ℕ) → c ≡ 0 → stops lo hi a b c ≡ true
  unfolding stops
  stops-none c e = rw (e, stops)

  pub stops-key : (c : ℕ) → 0 < c → stops lo hi a b c ≡ key_is lo hi a b (c - 1)
  unfolding stops
  stops-key zero h = absurd (omega arith)
  stops-key (suc i) h = let s : suc i - 1 ≡ i = omega arith in rw s

  module _ (link : Place → ℕ) where
    pub walk-stop : (f d : ℕ) (p : Place) → stops lo hi a b (link p) ≡ true → walk link lo hi a b f d p ≡ p
    unfolding walk
    walk-stop zero d p e = refl
    walk-stop (suc f) d p e = rw e

    pub walk_turn : (f d : ℕ) (p : Place) → stops lo hi a b (link p) ≡ false
        → walk link lo hi a b (suc f) d p ≡ walk link lo hi a b f (d + 1) (below (link p - 1) (turn d a b))
    unfolding walk
    walk_turn f d p e = rw e

-- ---- where a search comes by

module _ (depth lo hi : ℕ → ℕ) (n k : ℕ) where
  pub at_in : {a b d : ℕ} {p : Place} → At depth lo hi n k a b d p → In n k p
  at_in (top h e) = h
  at_in (side h s e g t) = (h, s)

  -- searches that come by one place have taken as many turns, the same ones
  at_meet : {x y e a b d : ℕ} {p : Place} → At depth lo hi n k x y e p → At depth lo hi n k a b d p → (e ≡ d) × Agree d x y a b
  at_meet {x} {y} {e} {a} {b} {d} (top h u) (top g v) = (u ∙ sym v, rw v (agree-none x y a b))
  at_meet {x} {y} {e} {a} {b} {d} (side {i} {s} h o u f t) (side g q v r w) =
      (u ∙ sym v, rw v (agree-join (depth i) (lo i) (hi i) x y a b f r (t ∙ sym w)))

-- where a search ends: it comes by that place, after some turns
pub record End (depth lo hi : ℕ → ℕ) (n k a b : ℕ) (p : Place) : Type 0 where
  pub turns : ℕ
  pub at : At depth lo hi n k a b turns p

module _ (depth lo hi : ℕ → ℕ) (link : Place → ℕ) (n k : ℕ) (t : Tree depth lo hi link n k) where
  module _ (a b : ℕ) where
    pub at-start : 0 < n → At depth lo hi n k a b 0 (head (bucket n a b))
    at-start h = top (bucket-lt n a b h) refl

    pub at-few : {d : ℕ} {p : Place} → At depth lo hi n k a b d p → link p ≤ k
    at-few {d} {p} u =
        by_cases (dec_lt 0 (link p)) (λ (q : 0 < link p). (t.right p (at_in depth lo hi n k u) q).0) (λ (q : ¬ (0 < link p)). omega arith)

    -- a turn at an entry
    pub at_next : {d : ℕ} {p : Place} → At depth lo hi n k a b d p → 0 < link p → At depth lo hi n k a b (d + 1) (below (link p - 1) (turn d a b))
    at_next {d} {p} u q =
        let r = t.right p (at_in depth lo hi n k u) q in
        let m = at_meet depth lo hi n k r.1 u in
        side {i = link p - 1} (omega arith) (turn-lt d a b) (rw m.0) (rw m.0 m.1) (rw m.0)

    -- after 128 turns the entry has the key
    pub at-full : {d : ℕ} {p : Place} → a < 2 ^ 64 → b < 2 ^ 64 → At depth lo hi n k a b d p → 0 < link p → 128 ≤ d
        → key_is lo hi a b (link p - 1) ≡ true
    at-full {d} {p} fa fb u q h =
        let r = t.right p (at_in depth lo hi n k u) q in
        let m = at_meet depth lo hi n k r.1 u in
        let f = t.fits (link p - 1) (omega arith) in
        let e = agree-all d _ _ a b h f.0 f.1 fa fb m.1 in
        key_is_lem lo hi a b (link p - 1) e.0 e.1

    walk_end : (f d : ℕ) (p : Place) → At depth lo hi n k a b d p → End depth lo hi n k a b (walk link lo hi a b f d p)
    unfolding walk
    walk_end zero d p u = record { turns = d; at = u }
    walk_end (suc f) d p u =
        by_cases (dec_lt 0 (link p))
        (λ (q : 0 < link p). go (stops lo hi a b (link p)) (walk_end f (d + 1) (below (link p - 1) (turn d a b)) (at_next u q)))
        (λ (q : ¬ (0 < link p)).
        rw (walk-stop lo hi a b link (suc f) d p (stops-none lo hi a b (link p) (omega arith))) (record { turns = d; at = u }))
      where
        go : (s : Bool) → End depth lo hi n k a b (walk link lo hi a b f (d + 1) (below (link p - 1) (turn d a b)))
            → End depth lo hi n k a b (cond s p (walk link lo hi a b f (d + 1) (below (link p - 1) (turn d a b))))
        go true r = record { turns = d; at = u }
        go false r = r

    pub spot_end : 0 < n → End depth lo hi n k a b (spot n link lo hi a b)
    unfolding spot
    spot_end h = walk_end 128 0 (head (bucket n a b)) (at-start h)

    -- it ends before its turns do
    walk-stops : a < 2 ^ 64 → b < 2 ^ 64 → (f d : ℕ) (p : Place) → At depth lo hi n k a b d p → f + d ≡ 128
        → stops lo hi a b (link (walk link lo hi a b f d p)) ≡ true
    unfolding walk
    walk-stops fa fb zero d p u e =
        by_cases (dec_lt 0 (link p))
        (λ (q : 0 < link p). stops-key lo hi a b (link p) q ∙ at-full fa fb u q (omega arith))
        (λ (q : ¬ (0 < link p)). stops-none lo hi a b (link p) (omega arith))
    walk-stops fa fb (suc f) d p u e =
        by_cases (dec_lt 0 (link p))
        (λ (q : 0 < link p).
        go (stops lo hi a b (link p)) refl (walk-stops fa fb f (d + 1) (below (link p - 1) (turn d a b)) (at_next u q) (omega arith)))
        (λ (q : ¬ (0 < link p)).
        let s = stops-none lo hi a b (link p) (omega arith) in
        rw (walk-stop lo hi a b link (suc f) d p s) s)
      where
        go : (s : Bool) → stops lo hi a b (link p) ≡ s → stops lo hi a b (link (walk link lo hi a b f (d + 1) (below (link p - 1) (turn d a b)))) ≡ true
            → stops lo hi a b (link (cond s p (walk link lo hi a b f (d + 1) (below (link p - 1) (turn d a b))))) ≡ true
        go true g r = g
        go false g r = r

    -- what it finds there is what a look-up answers
    pub spot-find : a < 2 ^ 64 → b < 2 ^ 64 → 0 < n → link (spot n link lo hi a b) ≡ find lo hi a b k
    unfolding spot stops
    spot-find fa fb h =
        by_cases (dec_lt 0 (find lo hi a b k))
        (λ (q : 0 < find lo hi a b k).
        let j = find lo hi a b k - 1 in
        let s = find-key lo hi a b k q in
        let f = t.finds j (omega (arith, find-le lo hi a b k)) in
        let g : link (spot n link lo hi a b) ≡ j + 1 = rw (s.0, s.1) at f in
        omega arith)
        (λ (q : ¬ (0 < find lo hi a b k)).
        go (link (spot n link lo hi a b)) (walk-stops fa fb 128 0 (head (bucket n a b)) (at-start h) refl) (at-few (spot_end h).at) q)
      where
        go : (c : ℕ) → stops lo hi a b c ≡ true → c ≤ k → ¬ (0 < find lo hi a b k) → c ≡ find lo hi a b k
        go zero e l q = omega arith
        go (suc i) e l q = let s = key-parts lo hi a b i e in absurd (omega (arith, find-above lo hi a b k i l s.0 s.1))

  -- no two entries have one key
  pub tree-distinct : Distinct lo hi k
  tree-distinct =
      record {
        apart = λ i j h l p q.
            let f = t.finds i (omega arith) in
            let g = t.finds j l in
            let e : link (spot n link lo hi (lo j) (hi j)) ≡ i + 1 = rw (p, q) at f in
            omega arith;
      }

-- ---- other links

-- every link that leads to an entry is kept: a search goes as before, where it ends as before
module _ (depth lo hi : ℕ → ℕ) (link : Place → ℕ) (n k : ℕ) (t : Tree depth lo hi link n k) (link' : Place → ℕ)
    (kept : (q : Place) → In n k q → 0 < link q → link' q ≡ link q) (a b : ℕ) where
  walk_same : (f d : ℕ) (p : Place) → At depth lo hi n k a b d p
      → (link (walk link lo hi a b f d p) ≡ 0 → stops lo hi a b (link' (walk link lo hi a b f d p)) ≡ true)
      → walk link' lo hi a b f d p ≡ walk link lo hi a b f d p
  unfolding walk
  walk_same zero d p u h = refl
  walk_same (suc f) d p u h =
      by_cases (dec_lt 0 (link p))
      (λ (q : 0 < link p). go (stops lo hi a b (link p)) refl (kept p (at_in depth lo hi n k u) q) h
      (walk_same f (d + 1) (below (link p - 1) (turn d a b)) (at_next depth lo hi link n k t a b u q)))
      (λ (q : ¬ (0 < link p)).
      let r : walk link lo hi a b (suc f) d p ≡ p = walk-stop lo hi a b link (suc f) d p (stops-none lo hi a b (link p) (omega arith)) in
      walk-stop lo hi a b link' (suc f) d p ((rw r at h) (omega arith)) ∙ sym r)
    where
      next : Place
      next = below (link p - 1) (turn d a b)

      go : (s : Bool) → stops lo hi a b (link p) ≡ s → link' p ≡ link p
          → (link (cond s p (walk link lo hi a b f (d + 1) next)) ≡ 0 → stops lo hi a b (link' (cond s p (walk link lo hi a b f (d + 1) next))) ≡ true)
          → ((link (walk link lo hi a b f (d + 1) next) ≡ 0 → stops lo hi a b (link' (walk link lo hi a b f (d + 1) next)) ≡ true)
          → walk link' lo hi a b f (d + 1) next ≡ walk link lo hi a b f (d + 1) next)
          → walk link' lo hi a b (suc f) d p ≡ cond s p (walk link lo hi a b f (d + 1) next)
      go true e x h r = walk-stop lo hi a b link' (suc f) d p (rw x e)
      go false e x h r = walk_turn lo hi a b link' f d p (rw x e) ∙ (rw x (r h))

  pub spot-same : 0 < n → (link (spot n link lo hi a b) ≡ 0 → stops lo hi a b (link' (spot n link lo hi a b)) ≡ true)
      → spot n link' lo hi a b ≡ spot n link lo hi a b
  unfolding spot
  spot-same h e = walk_same 128 0 (head (bucket n a b)) (at-start depth lo hi link n k t a b h) e

-- the same links at all places of the tree
pub tree-same : (depth lo hi : ℕ → ℕ) (link link' : Place → ℕ) (n k : ℕ) → Tree depth lo hi link n k
    → ((q : Place) → In n k q → link' q ≡ link q) → Tree depth lo hi link' n k
tree-same depth lo hi link link' n k t same =
    record {
      some = t.some;
      fits = t.fits;
      right = λ p i q. let e = same p i in rw e (t.right p i (rw e at q));
      finds = λ j l.
          let h = t.some (omega arith) in
          let i = at_in depth lo hi n k (spot_end depth lo hi link n k t (lo j) (hi j) h).at in
          let e = same (spot n link lo hi (lo j) (hi j)) i in
          let f = t.finds j l in
          rw (spot-same depth lo hi link n k t link' (λ q x y. same q x) (lo j) (hi j) h (λ z. absurd (omega arith)), e) f;
    }

-- ---- other keys: only those of the entries count

module _ (depth lo hi lo' hi' : ℕ → ℕ) (link : Place → ℕ) (n k : ℕ) (t : Tree depth lo hi link n k)
    (los : (i : ℕ) → i < k → lo' i ≡ lo i) (his : (i : ℕ) → i < k → hi' i ≡ hi i) where
  at-keys : {a b d : ℕ} {p : Place} → At depth lo hi n k a b d p → At depth lo' hi' n k a b d p
  at-keys (top h e) = top h e
  at-keys (side {i} h s e g r) = side {i = i} h s e (rw (los i h, his i h) g) r

  stops-keys : (a b c : ℕ) → c ≤ k → stops lo' hi' a b c ≡ stops lo hi a b c
  unfolding stops key_is
  stops-keys a b zero h = refl
  stops-keys a b (suc i) h = rw (los i h, his i h)

  walk-keys : (a b f d : ℕ) (p : Place) → At depth lo hi n k a b d p → walk link lo' hi' a b f d p ≡ walk link lo hi a b f d p
  unfolding walk
  walk-keys a b zero d p u = refl
  walk-keys a b (suc f) d p u =
      let e = stops-keys a b (link p) (at-few depth lo hi link n k t a b u) in
      by_cases (dec_lt 0 (link p))
      (λ (q : 0 < link p). rw (e, walk-keys a b f (d + 1) (below (link p - 1) (turn d a b)) (at_next depth lo hi link n k t a b u q)))
      (λ (q : ¬ (0 < link p)). let z = stops-none lo hi a b (link p) (omega arith) in rw (e, z))

  pub tree-keys : Tree depth lo' hi' link n k
  unfolding spot
  tree-keys =
      record {
        some = t.some;
        fits = λ i h. rw (los i h, his i h) (t.fits i h);
        right = λ p i q.
            let r = t.right p i q in
            let l : link p - 1 < k = omega arith in
            rw (los (link p - 1) l, his (link p - 1) l) (r.0, at-keys r.1);
        finds = λ j h.
            let s = at-start depth lo hi link n k t (lo j) (hi j) (t.some (omega arith)) in
            rw (los j h, his j h, walk-keys (lo j) (hi j) 128 0 (head (bucket n (lo j) (hi j))) s) (t.finds j h);
      }
