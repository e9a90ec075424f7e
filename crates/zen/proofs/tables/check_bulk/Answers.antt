-- `zen::tables::check_bulk` meets its contract.
use Rattle.std.specs.Prelude.{Some, None, Err, Ok}
use Prim.Native.Nat.{ℕ, ◌+◌, ◌-◌, ◌≤◌, ◌<◌}
use mathlib.Core.Path.{◌≡◌, sym, ◌∙◌}
use mathlib.Core.List.{List}
use native.Mathlib.Omega.{arith}
use lib.ListN.{length}
use borrow.Author.Tests.{le-leb, lt-leb, eq-eqb, ne_eqb}
use Rattle.base.specs.Reading.{walk}
use Rattle.base.specs.Number.{le_at}
use Rattle.base.specs.SignedSize.{size_in}
use Rattle.base.specs.SignedLaws.{size_is, size_none}
use Rattle.batch.specs.BatchAnswers.{checked}
use Rattle.zen.specs.Zen.{bulk}
use Rattle.zen.specs.TableLaws.{bulk-is}
use Rattle.zen.proofs.Handed.{handed, there_was, none_was}
use Rattle.zen.proofs.tables.check_bulk.Goals as goal

-- by the size that stands at the place
module _ (s : List ℕ) (at stop : ℕ) (within : at ≤ length s) where
  short : length s - at < 8 → Err 3 ≡ checked (walk (bulk stop) s at)
  unfolding checked
  short l = rw (bulk-is s at stop, lt-leb (at + 8) (length s) (omega arith))

  module _ (l : 8 ≤ length s - at) where
    negative : size_in 64 (le_at 8 s at) ≡ None → Err 18 ≡ checked (walk (bulk stop) s at)
    unfolding checked
    negative q = rw (bulk-is s at stop, le-leb (at + 8) (length s) (omega arith), size_none 64 _ q)

    module _ (z : ℕ) (q : size_in 64 (le_at 8 s at) ≡ Some z) where
      past : length s - (at + 8) < z → Err 3 ≡ checked (walk (bulk stop) s at)
      unfolding checked
      past h =
          let p = size_is 64 _ z q in
          rw (bulk-is s at stop, le-leb (at + 8) (length s) (omega arith), p.0, ← p.1, lt-leb (at + 8 + z) (length s) (omega arith))

      module _ (h : z ≤ length s - (at + 8)) where
        met : at + 8 + z ≡ stop → (Ok tt) ≡ checked (walk (bulk stop) s at)
        unfolding checked
        met m =
            let p = size_is 64 _ z q in
            rw (
              bulk-is s at stop,
              le-leb (at + 8) (length s) (omega arith),
              p.0,
              ← p.1,
              le-leb (at + 8 + z) (length s) (omega arith),
              eq-eqb (at + 8 + z) stop m,
            )

        missed : (at + 8 + z ≡ stop → ⊥) → Err 19 ≡ checked (walk (bulk stop) s at)
        unfolding checked
        missed m =
            let p = size_is 64 _ z q in
            rw (
              bulk-is s at stop,
              le-leb (at + 8) (length s) (omega arith),
              p.0,
              ← p.1,
              le-leb (at + 8 + z) (length s) (omega arith),
              ne_eqb (at + 8 + z) stop m,
            )

pub returns-then-end-at-lt8 : goal.returns-then-end-at-lt8
returns-then-end-at-lt8 c = search short

pub returns-in_err-size : goal.returns-in_err-size
returns-in_err-size c =
    let p = none_was _ _ c.in_err-size.ensures.value in
    handed _ _ c.from_residual.ensures.1 (rw p.1 (negative _ _ _ c.requires c.if-end-at-lt8.false (sym c.le_size64.ensures ∙ p.0)))

pub returns-then-end-from : goal.returns-then-end-from
returns-then-end-from c = let p = sym c.le_size64.ensures ∙ there_was _ _ c.in_ok-size.ensures.value in search past

pub returns-then-from-size : goal.returns-then-from-size
returns-then-from-size c = let p = sym c.le_size64.ensures ∙ there_was _ _ c.in_ok-size.ensures.value in search missed

pub returns : goal.returns
returns c = let p = sym c.le_size64.ensures ∙ there_was _ _ c.in_ok-size.ensures.value in search met
