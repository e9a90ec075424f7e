-- Laws of the table. Assumes nothing.
use Rattle.std.specs.Prelude.{◌≡◌, refl, ◌⊎◌, List, ◌∷◌, ◌++◌, ℕ, zero, suc, ◌+◌, ◌-◌, ◌*◌, ◌^◌, ◌≤◌, ◌<◌, drop, replicate}
use Rattle.std.proofs.Math.Path.{sym}
use Rattle.std.proofs.Common.{ap, ◌∙◌, inl, inr, ⊎_elim, mul-le-mul_left}
use Rattle.std.proofs.Math.Logic.{by_cases}
use Rattle.std.proofs.Math.Decide.{dec_lt, ℕ_discrete}
use native.Mathlib.Omega.{arith}
use Rattle.std.proofs.Math.ListN.{length}
use Rattle.std.proofs.lemmas.List.{length-replicate}
use Rattle.base.specs.Number.{le_at}
use Rattle.table.specs.Words.{mid, stored, Kept}
use Rattle.table.specs.WordLaws.{kept_read, mid-length, put-kept, stored-kept}
use Rattle.table.specs.Entries.{find, Distinct}
use Rattle.table.specs.EntryLaws.{find-only}
use Rattle.table.specs.Tree.{Place, head, below, In, At}
use Rattle.table.specs.TreeLaws.{spot-find, tree-same, tree-keys, tree-distinct}
use Rattle.table.specs.Table.{record_at, place_at, link_at, Holds, Linked, Table, Ended, cleared}

-- ---- places

-- records don't overlap
pub record_next : (n stride i j : ℕ) → i < j → record_at n stride i + stride ≤ record_at n stride j
record_next n stride i j h = omega (arith, mul-le-mul_left stride h)

module _ (n stride : ℕ) (wide : 24 ≤ stride) where
  -- the links are before the records that are still free
  pub place-before : (k : ℕ) (p : Place) → In n k p → place_at n stride p + 4 ≤ record_at n stride k
  place-before k (head h) i = omega arith
  place-before k (below j s) i = omega (arith, record_next n stride j k i.0)

  -- a link and what stands from byte 8 of a record on don't overlap
  pub place-column : (k : ℕ) (p : Place) → In n k p → (i c m : ℕ) → 8 ≤ c → c + m ≤ stride
      → (record_at n stride i + c + m ≤ place_at n stride p) ⊎ (place_at n stride p + 4 ≤ record_at n stride i + c)
  place-column k (head h) g i c m l u = inr (omega arith)
  place-column k (below j s) g i c m l u =
      by_cases (dec_lt i j)
      (λ (h : i < j). inl (omega (arith, record_next n stride i j h)))
      (λ (h : ¬ (i < j)). by_cases (ℕ_discrete i j)
      (λ (e : i ≡ j). inr (rw e (omega arith)))
      (λ (e : ¬ (i ≡ j)). inr (omega (arith, record_next n stride j i (omega arith)))))

  -- nor do two links
  sides_apart : (i s j r : ℕ) → s < 2 → r < 2 → (below i s ≡ below j r → ⊥)
      → (record_at n stride i + 4 * s + 4 ≤ record_at n stride j + 4 * r) ⊎ (record_at n stride j + 4 * r + 4 ≤ record_at n stride i + 4 * s)
  sides_apart i s j r a b ne =
      by_cases (dec_lt i j)
      (λ (h : i < j). inl (omega (arith, record_next n stride i j h)))
      (λ (h : ¬ (i < j)). by_cases (ℕ_discrete i j)
      (λ (e : i ≡ j). by_cases (dec_lt s r)
      (λ (l : s < r). inl (rw e (omega arith)))
      (λ (l : ¬ (s < r)). by_cases (ℕ_discrete s r)
      (λ (f : s ≡ r). absurd (ne (rw (e, f))))
      (λ (f : ¬ (s ≡ r)). inr (rw e (omega arith)))))
      (λ (e : ¬ (i ≡ j)). inr (omega (arith, record_next n stride j i (omega arith)))))

  heads-apart : (h g : ℕ) → (head h ≡ head g → ⊥) → (4 * h + 4 ≤ 4 * g) ⊎ (4 * g + 4 ≤ 4 * h)
  heads-apart h g ne =
      by_cases (dec_lt h g)
      (λ (l : h < g). inl (omega arith))
      (λ (l : ¬ (h < g)). by_cases (ℕ_discrete h g) (λ (e : h ≡ g). absurd (ne (ap head e))) (λ (e : ¬ (h ≡ g)). inr (omega arith)))

  pub places_apart : (k : ℕ) (p q : Place) → In n k p → In n k q → (q ≡ p → ⊥)
      → (place_at n stride q + 4 ≤ place_at n stride p) ⊎ (place_at n stride p + 4 ≤ place_at n stride q)
  places_apart k (head h) (head g) i j ne = heads-apart g h ne
  places_apart k (head h) (below j r) i l ne = inr (omega arith)
  places_apart k (below i s) (head g) l j ne = inl (omega arith)
  places_apart k (below i s) (below j r) l m ne = sides_apart j r i s m.1 l.1 ne

-- a change within record i and what stands in another record don't overlap
pub record_other : (n stride i b e : ℕ) → record_at n stride i ≤ b → e ≤ record_at n stride i + stride
    → (j c m : ℕ) → (i ≡ j → ⊥) → c + m ≤ stride → (record_at n stride j + c + m ≤ b) ⊎ (e ≤ record_at n stride j + c)
record_other n stride i b e l u j c m ne h =
    by_cases (dec_lt j i)
    (λ (x : j < i). inl (omega (arith, record_next n stride j i x)))
    (λ (x : ¬ (j < i)). inr (omega (arith, record_next n stride i j (omega arith))))

-- ---- what a table holds

module _ {n stride k : ℕ} {lo hi : ℕ → ℕ} {w : List ℕ} (t : Holds n stride k lo hi w) where
  pub holds-linked : Linked n stride k w
  holds-linked = record { lo = lo; hi = hi; holds = t }

  pub holds-table : Table n stride w
  holds-table = record { count = k; linked = holds-linked }

  -- where there is no bucket there is no entry
  pub holds-none : n ≡ 0 → k ≡ 0
  holds-none e = by_cases (dec_lt 0 k) (λ (h : 0 < k). absurd (omega (arith, t.tree.some h))) (λ (h : ¬ (0 < k)). omega arith)

  -- the link where a search ends is what a look-up answers
  pub ended-find : (a b : ℕ) {place link : ℕ} → a < 2 ^ 64 → b < 2 ^ 64 → 0 < n → Ended n stride lo hi w a b place link → link ≡ find lo hi a b k
  ended-find a b fa fb h e = e.linked ∙ spot-find t.depth lo hi (link_at n stride w) n k t.tree a b fa fb h

  -- no two entries have one key
  pub holds-distinct : Distinct lo hi k
  holds-distinct = tree-distinct t.depth lo hi (link_at n stride w) n k t.tree

  -- so a look-up of an entry's key (a, b) answers that entry
  pub holds-only : {i a b r : ℕ} → i < k → a ≡ lo i → b ≡ hi i → r ≡ find lo hi a b k → r ≡ i + 1
  holds-only {i} {a} {b} h ea eb f = f ∙ find-only lo hi a b k holds-distinct i h (sym ea) (sym eb)

  -- only the keys of the entries that it holds count
  pub holds-keys : (lo' hi' : ℕ → ℕ) → ((i : ℕ) → i < k → lo' i ≡ lo i) → ((i : ℕ) → i < k → hi' i ≡ hi i) → Holds n stride k lo' hi' w
  holds-keys lo' hi' p q =
      record {
        few = t.few;
        wide = t.wide;
        room = t.room;
        los = λ i h. t.los i h ∙ sym (p i h);
        his = λ i h. t.his i h ∙ sym (q i h);
        depth = t.depth;
        tree = tree-keys t.depth lo hi lo' hi' (link_at n stride w) n k t.tree p q;
      }

  holds_same : (w' : List ℕ) → length w' ≡ length w → ((p : Place) → In n k p → link_at n stride w' p ≡ link_at n stride w p)
      → ((i c : ℕ) → i < k → c ≤ 16 → 8 ≤ c → le_at 8 w' (record_at n stride i + c) ≡ le_at 8 w (record_at n stride i + c)) → Holds n stride k lo hi w'
  holds_same w' size links keys =
      record {
        few = t.few;
        wide = t.wide;
        room = rw size t.room;
        los = λ i h. keys i 8 h (omega arith) (omega arith) ∙ t.los i h;
        his = λ i h. keys i 16 h (omega arith) (omega arith) ∙ t.his i h;
        depth = t.depth;
        tree = tree-same t.depth lo hi (link_at n stride w) (link_at n stride w') n k t.tree links;
      }

  module _ {b e : ℕ} {w' : List ℕ} (c : Kept b e w w') where
    -- a change of what belongs to the caller, in one record from byte 24 on
    pub holds-column : (i : ℕ) → record_at n stride i + 24 ≤ b → e ≤ record_at n stride i + stride → Holds n stride k lo hi w'
    holds-column i l u =
        let wide = t.wide in
        holds_same w' c.size
        (λ p g. kept_read c 4 (place_at n stride p)
        (⊎_elim (λ x. inr (omega arith)) (λ x. inl (omega arith)) (place-column n stride wide k p g i 24 (stride - 24) (omega arith) (omega arith))))
        (λ j d g h m. kept_read c 8 (record_at n stride j + d) (by_cases (ℕ_discrete i j)
        (λ (x : i ≡ j). inl (rw (← x) (omega arith)))
        (λ (x : ¬ (i ≡ j)). record_other n stride i b e (omega arith) u j d 8 x (omega arith))))

    -- a change behind the entries
    pub holds-behind : record_at n stride k ≤ b → Holds n stride k lo hi w'
    holds-behind h =
        let wide = t.wide in
        holds_same w' c.size
        (λ p g. kept_read c 4 (place_at n stride p) (inl (omega (arith, place-before n stride wide k p g))))
        (λ j d g x m. kept_read c 8 (record_at n stride j + d) (inl (omega (arith, record_next n stride j k g))))

  -- a number that the caller stores in a record
  pub holds-store : (j i c v : ℕ) → 24 ≤ c → c + j ≤ stride → record_at n stride i + stride ≤ length w
      → Holds n stride k lo hi (stored j w (record_at n stride i + c) v)
  holds-store j i c v l u room = holds-column (stored-kept j w (record_at n stride i + c) v (omega arith)) i (omega arith) (omega arith)

-- ---- a table with no entry

zeros : (a k m : ℕ) (r : List ℕ) → a + k ≤ m → mid a k (replicate m 0 ++ r) ≡ replicate k 0
zeros zero zero m r h = refl
zeros zero (suc k) zero r h = absurd (omega arith)
zeros zero (suc k) (suc m) r h = ap (λ (l : List ℕ). 0 ∷ l) (zeros zero k m r (omega arith))
zeros (suc a) k zero r h = absurd (omega arith)
zeros (suc a) k (suc m) r h = zeros a k m r (omega arith)

module _ (n : ℕ) (w : List ℕ) (room : 4 * n ≤ length w) where
  head-cleared : (h : ℕ) → h < n → le_at 4 (cleared n w) (4 * h) ≡ 0
  unfolding cleared le_at
  head-cleared h l = rw (zeros (4 * h) 4 (4 * n) (drop (4 * n) w) (omega arith))

  pub cleared-kept : Kept 0 (4 * n) w (cleared n w)
  unfolding cleared
  cleared-kept =
      let e : 0 + 4 * n ≡ 4 * n = omega arith in
      let l : 0 + 4 * n ≤ length w = omega arith in
      rw e at (put-kept 0 (4 * n) w (replicate (4 * n) 0) l (length-replicate (4 * n) 0 ∙ sym (mid-length 0 (4 * n) w l)))

  pub holds-cleared : (stride : ℕ) (lo hi : ℕ → ℕ) → n < 2 ^ 32 → 24 ≤ stride → Holds n stride 0 lo hi (cleared n w)
  holds-cleared stride lo hi few wide =
      record {
        few = few;
        wide = wide;
        room = rw cleared-kept.size (omega arith);
        los = λ i h. absurd (omega arith);
        his = λ i h. absurd (omega arith);
        depth = λ i. 0;
        tree = record { some = λ h. absurd (omega arith); fits = λ i h. absurd (omega arith); right = none; finds = λ j h. absurd (omega arith) };
      }
    where
      none : (p : Place) → In n 0 p → 0 < link_at n stride (cleared n w) p → (link_at n stride (cleared n w) p ≤ 0)
          × At (λ i. 0) lo hi n 0 (lo (link_at n stride (cleared n w) p - 1)) (hi (link_at n stride (cleared n w) p - 1)) 0 p
      none (head h) i q = absurd (omega (arith, head-cleared h i))
      none (below i s) g q = absurd (omega arith)
