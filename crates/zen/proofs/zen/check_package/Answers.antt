-- `zen::zen::check_package` meets its contract, by what stands before the header.
use Rattle.std.specs.Prelude.{Err, Ok, Result}
use Rattle.zen.specs.declared.zen.Layout.{Layout}
use Prim.Native.Nat.{ℕ, ◌≤◌, ◌<◌}
use mathlib.Core.Path.{◌≡◌, sym, ap, ◌∙◌}
use mathlib.Core.List.{List}
use lib.ListN.{length, take}
use lib.Seq.{length-take-le}
use Rattle.base.specs.Reading.{walk, got, run_block}
use Rattle.base.specs.ReadingLaws.{out}
use Rattle.zen.specs.Zen.{header, lead, package_block}
use Rattle.zen.specs.Answers.{led, answer}
use Rattle.zen.specs.AnswersLaws.{led-header, led-fault}
use Rattle.zen.proofs.Handed.{handed}
use Rattle.zen.proofs.BlockLaws.{block-is, block-low, block-bad, lead-got}
use Rattle.zen.proofs.zen.check_package.Goals as goal

module _ (b : List ℕ) where
  failed : {r : ℕ} → Err r ≡ led (walk lead b 0) → Err r ≡ answer (run_block package_block b)
  unfolding answer
  failed q = ap answer (sym (block-bad b (led-fault _ (sym q))))

  module _ (size : ℕ) (q : Ok size ≡ led (walk lead b 0)) where
    read : (n : ℕ) × (walk lead b 0 ≡ got size n)
    read = led-header _ (sym q)

    within : size ≤ length b
    within = (lead-got b size read.0 read.1).1

    led-is : walk lead b 0 ≡ got size 8
    led-is = read.1 ∙ ap (got size) (lead-got b size read.0 read.1).0

    low : size < 8 → Err 3 ≡ answer (run_block package_block b)
    unfolding answer
    low k = ap answer (sym (block-low b led-is k))

    whole : 8 ≤ size → {r : Result Layout ℕ} → r ≡ answer (out (walk (header (length (take size b))) (take size b) 8))
        → r ≡ answer (run_block package_block b)
    whole k p = rw (length-take-le size b within) at p ∙ ap answer (sym (block-is b led-is k within))

pub returns-in_err-size : goal.returns-in_err-size
returns-in_err-size c = handed _ _ c.from_residual.ensures.1 (failed _ c.in_err-size.ensures)

pub returns-then-size-lt8 : goal.returns-then-size-lt8
returns-then-size-lt8 c = low _ _ c.in_ok-size.ensures c.if-size-lt8.true

pub slice_bounds-check_header-end : goal.slice_bounds-check_header-end
slice_bounds-check_header-end c = sym (length-take-le _ _ (within _ _ c.in_ok-size.ensures))

pub returns : goal.returns
returns c = whole _ _ c.in_ok-size.ensures c.if-size-lt8.false c.check_header.ensures
