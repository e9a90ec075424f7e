-- Laws of an entry that was added: what was written, and what is as it was. Assumes nothing.
use Rattle.std.specs.Prelude.{◌≡◌, List, ℕ, ◌+◌, ◌*◌, ◌^◌, ◌≤◌, ◌<◌, length}
use Rattle.std.proofs.Common.{sym, ◌∙◌, inl, inr, zero-lt-suc, arith}
use Rattle.std.proofs.Math.Logic.{by_cases}
use Rattle.std.proofs.Math.Decide.{ℕ_discrete}
use Rattle.base.specs.Number.{le_at}
use Rattle.base.specs.NumberLaws.{le_at-same}
use Rattle.table.specs.Words.{mid, stored, Kept}
use Rattle.table.specs.WordLaws.{kept-part, kept_read, kept_then, kept_wider, stored-kept, stored-read}
use Rattle.table.specs.EntryLaws.{updated, updated-here, updated-before}
use Rattle.table.specs.Tree.{Place, below, In}
use Rattle.table.specs.Table.{record_at, place_at, link_at, Linked, filled, attached, Added}
use Rattle.table.specs.TableLaws.{record_next, record_other, place-before, place-column, places_apart, holds-keys}

-- ---- a record filled

module _ (at a b : ℕ) (w : List ℕ) (room : at + 24 ≤ length w) where
  -- the stores, one after the other
  abbrev left : List ℕ
  left = stored 4 w at 0

  abbrev links : List ℕ
  links = stored 4 left (at + 4) 0

  abbrev half : List ℕ
  half = stored 8 links (at + 8) a

  one : Kept at (at + 4) w left
  one = stored-kept 4 w at 0 (omega arith)

  two : Kept (at + 4) (at + 4 + 4) left links
  two = stored-kept 4 left (at + 4) 0 (omega (arith, one.size))

  three : Kept (at + 8) (at + 8 + 8) links half
  three = stored-kept 8 links (at + 8) a (omega (arith, one.size, two.size))

  four : Kept (at + 16) (at + 16 + 8) half (filled at a b w)
  unfolding filled
  four = stored-kept 8 half (at + 16) b (omega (arith, one.size, two.size, three.size))

  -- only its first 24 bytes are written
  pub filled-kept : Kept at (at + 24) w (filled at a b w)
  filled-kept =
      kept_then (kept_wider one at (at + 24) (omega arith) (omega arith))
      (kept_then (kept_wider two at (at + 24) (omega arith) (omega arith))
      (kept_then (kept_wider three at (at + 24) (omega arith) (omega arith)) (kept_wider four at (at + 24) (omega arith) (omega arith))))

  -- it has no links, and its key is (a, b)
  pub filled-left : le_at 4 (filled at a b w) at ≡ 0
  filled-left =
      kept_read four 4 at (inl (omega arith)) ∙ kept_read three 4 at (inl (omega arith)) ∙ kept_read two 4 at (inl (omega arith))
      ∙ stored-read 4 w at 0 (omega arith) (zero-lt-suc _)

  pub filled-right : le_at 4 (filled at a b w) (at + 4) ≡ 0
  filled-right =
      kept_read four 4 (at + 4) (inl (omega arith)) ∙ kept_read three 4 (at + 4) (inl (omega arith))
      ∙ stored-read 4 left (at + 4) 0 (omega (arith, one.size)) (zero-lt-suc _)

  pub filled-lo : a < 2 ^ 64 → le_at 8 (filled at a b w) (at + 8) ≡ a
  filled-lo h = kept_read four 8 (at + 8) (inl (omega arith)) ∙ stored-read 8 links (at + 8) a (omega (arith, one.size, two.size)) h

  pub filled-hi : b < 2 ^ 64 → le_at 8 (filled at a b w) (at + 16) ≡ b
  unfolding filled
  filled-hi h = stored-read 8 half (at + 16) b (omega (arith, one.size, two.size, three.size)) h

-- ---- entry k's record filled, and a link before it set, at the place m

module _ (n stride k a b : ℕ) (w : List ℕ) (wide : 24 ≤ stride) (room : record_at n stride (k + 1) ≤ length w) (m : Place) (inside : In n k m) where
  abbrev pub new : List ℕ
  new = attached (record_at n stride k) a b (place_at n stride m) (k + 1) w

  fits : record_at n stride k + 24 ≤ length w
  fits = omega arith

  written : Kept (record_at n stride k) (record_at n stride k + 24) w (filled (record_at n stride k) a b w)
  written = filled-kept (record_at n stride k) a b w fits

  link_fits : place_at n stride m + 4 ≤ length (filled (record_at n stride k) a b w)
  link_fits = omega (arith, fits, written.size, place-before n stride wide k m inside)

  linked : Kept (place_at n stride m) (place_at n stride m + 4) (filled (record_at n stride k) a b w) new
  unfolding attached
  linked = stored-kept 4 (filled (record_at n stride k) a b w) (place_at n stride m) (k + 1) link_fits

  -- the links
  pub link-new : k + 1 < 2 ^ 32 → link_at n stride new m ≡ k + 1
  unfolding attached
  link-new h = stored-read 4 (filled (record_at n stride k) a b w) (place_at n stride m) (k + 1) link_fits h

  pub link-empty : (s : ℕ) → s < 2 → link_at n stride new (below k s) ≡ 0
  link-empty s h =
      kept_read linked 4 (record_at n stride k + 4 * s) (inr (omega (arith, place-before n stride wide k m inside)))
      ∙ by_cases (ℕ_discrete s 0)
      (λ (e : s ≡ 0). let o : record_at n stride k + 4 * s ≡ record_at n stride k = omega arith in rw o (filled-left (record_at n stride k) a b w fits))
      (λ (e : ¬ (s ≡ 0)). let o : record_at n stride k + 4 * s ≡ record_at n stride k + 4 = omega arith in rw o (filled-right (record_at n stride k) a b w fits))

  pub link-kept : (q : Place) → In n k q → (q ≡ m → ⊥) → link_at n stride new q ≡ link_at n stride w q
  link-kept q i ne =
      kept_read linked 4 (place_at n stride q) (places_apart n stride wide k m q inside i ne)
      ∙ kept_read written 4 (place_at n stride q) (inl (place-before n stride wide k q i))

  -- the keys
  own : (c : ℕ) → 8 ≤ c → c ≤ 16 → le_at 8 new (record_at n stride k + c) ≡ le_at 8 (filled (record_at n stride k) a b w) (record_at n stride k + c)
  own c l u = kept_read linked 8 (record_at n stride k + c) (place-column n stride wide k m inside k c 8 l (omega arith))

  pub lo-new : a < 2 ^ 64 → le_at 8 new (record_at n stride k + 8) ≡ a
  lo-new h = own 8 (omega arith) (omega arith) ∙ filled-lo (record_at n stride k) a b w fits h

  pub hi-new : b < 2 ^ 64 → le_at 8 new (record_at n stride k + 16) ≡ b
  hi-new h = own 16 (omega arith) (omega arith) ∙ filled-hi (record_at n stride k) a b w fits h

  pub key-kept : (i c : ℕ) → i < k → 8 ≤ c → c ≤ 16 → le_at 8 new (record_at n stride i + c) ≡ le_at 8 w (record_at n stride i + c)
  key-kept i c h l u =
      kept_read linked 8 (record_at n stride i + c) (place-column n stride wide k m inside i c 8 l (omega arith))
      ∙ kept_read written 8 (record_at n stride i + c) (inl (omega (arith, record_next n stride i k h)))

  -- what belongs to the caller
  part-kept : (i c j : ℕ) → 24 ≤ c → c + j ≤ stride → mid (record_at n stride i + c) j new ≡ mid (record_at n stride i + c) j w
  part-kept i c j l u =
      kept-part linked (record_at n stride i + c) j (place-column n stride wide k m inside i c j (omega arith) u)
      ∙ kept-part written (record_at n stride i + c) j (by_cases (ℕ_discrete k i)
      (λ (e : k ≡ i). inr (rw e (omega arith)))
      (λ (e : ¬ (k ≡ i)). record_other n stride k (record_at n stride k) (record_at n stride k + 24) (omega arith) (omega arith) i c j e u))

  -- what is behind
  pub new-kept : Kept 0 (record_at n stride (k + 1)) w new
  new-kept =
      kept_then (kept_wider written 0 (record_at n stride (k + 1)) (omega arith) (omega arith))
      (kept_wider linked 0 (record_at n stride (k + 1)) (omega arith) (omega (arith, place-before n stride wide k m inside)))

-- ---- an entry added

module _ {n stride k a b : ℕ} {w w' : List ℕ} (t : Added n stride k a b w w') where
  -- the table holds one entry more
  pub added-linked : Linked n stride k w → Linked n stride (k + 1) w'
  added-linked l =
      let lo = updated l.lo k a in
      let hi = updated l.hi k b in
      let same = holds-keys l.holds lo hi (updated-before l.lo k a) (updated-before l.hi k b) in
      record { lo = lo; hi = hi; holds = t.holds lo hi same (sym (updated-here l.lo k a)) (sym (updated-here l.hi k b)) }

  -- what belongs to the caller is as it was, in every record
  pub added-part : (i c j : ℕ) → 24 ≤ c → c + j ≤ stride → mid (record_at n stride i + c) j w' ≡ mid (record_at n stride i + c) j w
  added-part i c j l u = rw t.is (part-kept n stride k a b w t.wide t.room t.place t.inside i c j l u)

  pub added-read : (j i c : ℕ) → 24 ≤ c → c + j ≤ stride → le_at j w' (record_at n stride i + c) ≡ le_at j w (record_at n stride i + c)
  added-read j i c l u = le_at-same j w' w (record_at n stride i + c) (record_at n stride i + c) (added-part i c j l u)

  -- and so is all that is behind the entry
  pub added-kept : Kept 0 (record_at n stride (k + 1)) w w'
  added-kept = rw t.is (new-kept n stride k a b w t.wide t.room t.place t.inside)
