-- What is read in a block's first bytes is read the same in the whole block: a name's place, a batch that is held, an export. Laws over
-- zen's definitions. Assumes nothing.
use Rattle.std.specs.Prelude.{◌≡◌, List, length, take, drop}
use Rattle.std.proofs.Math.Path.{refl}
use Rattle.std.proofs.Common.{◌∙◌, ap, arith, length-take-le, take-take}
use Prim.Native.Nat.{ℕ, zero, suc, ◌+◌, ◌*◌, ◌-◌, ◌≤◌}
use Rattle.std.proofs.Math.Seq.{get_or-take}
use Rattle.base.specs.Number.{le_at}
use Rattle.base.specs.NumberLaws.{le_at-part, drop-take}
use Rattle.batch.specs.Batch.{head_at}
use Rattle.batch.specs.Field.{low30}
use Rattle.batch.specs.Places.{name_start, place_at, part_at, Held}
use Rattle.batch.specs.PlacesLaws.{place_inside}
use Rattle.batch.specs.declared.names.Names.{Names}
use Rattle.batch.specs.declared.places.Place.{Place}
use Rattle.zen.specs.Zen.{export_at}

module _ (k : ℕ) (s : List ℕ) where
  -- the first k bytes hold a number as the block does
  pub le-whole : (n i : ℕ) → i + n ≤ k → le_at n (take k s) i ≡ le_at n s i
  le-whole n i h = le_at-part n 0 k s i h ∙ ap (le_at n s) (omega arith)

  pub low30-whole : (i : ℕ) → i + 4 ≤ k → low30 (take k s) i ≡ low30 s i
  unfolding low30
  low30-whole i h = rw (le-whole 3 i (omega arith), get_or-take k s (i + 3) 0 (omega arith))

  -- and an export
  pub export-whole : (at : ℕ) → at + 72 ≤ k → export_at (take k s) at ≡ export_at s at
  unfolding export_at
  export-whole at h =
      rw (low30-whole (at + 16) (omega arith), le-whole 4 (at + 20) (omega arith), le-whole 8 (at + 24) (omega arith), le-whole 8 (at + 32) (omega arith), le-whole 8 (at + 40) (omega arith), le-whole 8 (at + 56) (omega arith))

  head-whole : (h : ℕ) → h + 2 ≤ k → head_at (take k s) h ≡ head_at s h
  unfolding head_at
  head-whole h l = rw (get_or-take k s h 0 (omega arith), get_or-take k s (h + 1) 0 (omega arith))

  start-whole : (h p i : ℕ) → h + 2 * i ≤ k → name_start (take k s) h p i ≡ name_start s h p i
  unfolding name_start
  start-whole h p zero l = refl
  start-whole h p (suc i) l = rw (head-whole h (omega arith)) (start-whole (h + 2) (p + (head_at s h).size) i (omega arith))

  -- the place of a name
  pub place-whole : (n : Names) (i : ℕ) → n.headers + 2 * i + 2 ≤ k → place_at (take k s) n i ≡ place_at s n i
  unfolding place_at
  place-whole n i l = rw (head-whole (n.headers + 2 * i) l, start-whole n.headers n.strings i (omega arith))

  part-whole : (p : Place) → p.start + p.size ≤ k → part_at (take k s) p ≡ part_at s p
  part-whole p l = rw (drop-take p.start k s, take-take p.size (k - p.start) (drop p.start s) (omega arith))

  -- and a batch
  pub held_whole : (n : Names) → k ≤ length s → Held (take k s) n → Held s n
  held_whole n h d =
      let w : length (take k s) ≡ k = length-take-le k s h in
      record {
        heads = omega (arith, d.heads);
        inside = rw (start-whole n.headers n.strings n.count (omega (arith, d.heads))) at d.inside;
        ends = omega (arith, d.ends);
        span = d.span;
        well = λ i l.
            let e = place-whole n i (omega (arith, d.heads)) in
            let a = place_inside (take k s) n i l d in
            let q = part-whole (place_at (take k s) n i) (omega (arith, d.ends)) in
            rw (q, e) at (d.well i l);
      }
