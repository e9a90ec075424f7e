-- `decode::measure::measure` meets its contract. The loop's invariant: the bytes are measured as what is passed, added to those from `at`
-- on. Assumes nothing.
use mathlib.Core.Path.{sym, ap, ◌∙◌}
use native.Mathlib.Omega.{arith}
use Rattle.decode.specs.Step.{added, Passed}
use Rattle.decode.proofs.StepLaws.{added_none, added_twice, added-ill, added-last}
use Rattle.decode.proofs.measure.measure.Goals as goal

pub loop-at-init : goal.loop-at-init
loop-at-init c = (omega arith, omega arith, added_none _)

pub loop-at-preserved : goal.loop-at-preserved
loop-at-preserved c =
    let t : Passed c.args.s.now c.loop-at.at _ _ _ = c.in_ok-step.ensures in
    let l = c.loop-at in
    (t.within, omega arith, l.invariant.2 ∙ ap (added l.units l.latin) t.is ∙ added_twice _ _ _ _ _)

pub returns-in_err-step : goal.returns-in_err-step
returns-in_err-step c =
    let l = c.loop-at in
    c.from_residual.ensures ∙ sym (l.invariant.2 ∙ added-ill l.units l.latin c.in_err-step.ensures)

pub returns : goal.returns
returns c = sym (c.loop-at.invariant.2 ∙ added-last _ _ _ _ c.loop-at-test.false)
