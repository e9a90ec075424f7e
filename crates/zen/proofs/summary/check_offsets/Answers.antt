-- `zen::summary::check_offsets` meets its contract. The loop's invariant: what is left to read from here answers as the whole.
use Rattle.std.specs.Prelude.{Err, Ok, Some, None}
use Prim.Native.Nat.{ℕ, ◌+◌, ◌*◌, ◌-◌, ◌≤◌, ◌<◌}
use mathlib.Core.Path.{◌≡◌, refl, sym, ◌∙◌}
use mathlib.Core.List.{List}
use native.Mathlib.Nat.{sub-zero}
use native.Mathlib.Omega.{arith}
use lib.ListN.{length}
use Rattle.base.specs.Reading.{walk, rows}
use Rattle.base.specs.Number.{le_at}
use Rattle.base.specs.SignedSize.{size_in}
use Rattle.base.specs.SignedLaws.{size_is, size_none}
use Rattle.batch.specs.BatchAnswers.{checked}
use Rattle.batch.specs.BatchAnswersLaws.{rows_none, rows_pass, rows_fail}
use Rattle.zen.specs.Zen.{offset}
use Rattle.zen.proofs.SummaryLaws.{offset-short, offset-negative, offset-there}
use Rattle.zen.proofs.Handed.{handed, there_was, none_was}
use Rattle.zen.proofs.summary.check_offsets.Goals as goal

-- a turn, by the size at its place
module _ (s : List ℕ) (from at left : ℕ) (same : checked (walk (rows 7 offset) s from) ≡ checked (walk (rows left offset) s at)) where
  none : left ≤ 0 → (Ok tt) ≡ checked (walk (rows 7 offset) s from)
  none h = sym (same ∙ rows_none offset s left at h)

  module _ (more : 0 < left) where
    short : length s - at < 4 → at ≤ length s → Err 3 ≡ checked (walk (rows 7 offset) s from)
    short h l = sym (same ∙ rows_fail offset s left at more (offset-short s at (omega arith)))

    module _ (there : 4 ≤ length s - at) where
      negative : size_in 32 (le_at 4 s at) ≡ None → Err 16 ≡ checked (walk (rows 7 offset) s from)
      negative q = sym (same ∙ rows_fail offset s left at more (offset-negative s at (omega arith) (size_none 32 _ q)))

      next : (n : ℕ) → size_in 32 (le_at 4 s at) ≡ Some n → checked (walk (rows 7 offset) s from) ≡ checked (walk (rows (left - 1) offset) s (at + 4))
      next n q = same ∙ rows_pass offset s left at more (offset-there s at (omega arith) (size_is 32 _ n q).0)

pub loop-i-init : goal.loop-i-init
loop-i-init c = let z : c.args.from + 4 * 0 ≡ c.args.from = omega arith in rw (z, sub-zero) (c.requires, refl)

pub returns-then-s-at-lt4 : goal.returns-then-s-at-lt4
returns-then-s-at-lt4 c = let i = c.loop-i.invariant in short _ _ _ _ i.1 (omega arith) c.if-s-at-lt4.true i.0

pub returns-in_err-ok_or : goal.returns-in_err-ok_or
returns-in_err-ok_or c =
    let i = c.loop-i.invariant in
    let p = none_was _ _ c.in_err-ok_or.ensures.value in
    handed _ _ c.from_residual.ensures.1 (rw p.1 (negative _ _ _ _ i.1 (omega arith) c.if-s-at-lt4.false (sym c.le_size32.ensures ∙ p.0)))

pub loop-i-preserved : goal.loop-i-preserved
loop-i-preserved c =
    let k : 7 - (c.loop-i.i + 1) ≡ 7 - c.loop-i.i - 1 = omega arith in
    let m : c.args.from + 4 * (c.loop-i.i + 1) ≡ c.args.from + 4 * c.loop-i.i + 4 = omega arith in
    let i = c.loop-i.invariant in
    rw (k, m)
    (omega arith, next _ _ _ _ i.1 (omega arith) c.if-s-at-lt4.false _ (sym c.le_size32.ensures ∙ there_was _ _ c.in_ok-ok_or.ensures.value))

pub returns : goal.returns
returns c = none _ _ _ _ c.loop-i.invariant.1 (omega arith)
