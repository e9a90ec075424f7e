-- `walk::script::enter_script` meets its contract.
use mathlib.Core.Path.{refl, sym, ◌∙◌, ap}
use native.Mathlib.Omega.{arith}
use Rattle.std.specs.Prelude.{Err}
use Rattle.base.proofs.Numbers.{number-some}
use Rattle.scriptblock.proofs.ScriptLaws.{open_fits, script-fault, script-left, script-accepted}
use Rattle.walk.proofs.Scans.{ok_same, err_same, handed}
use Rattle.walk.proofs.Tabled.{Filled, filled-front, linked-after, linked-length}
use Rattle.walk.proofs.script.enter_script.Goals.{Else-l-names}
use Rattle.walk.proofs.script.enter_script.Goals as goal

-- the objects that were entered, of an accepted block
filled : (c : Else-l-names) → let a = c.args in
    Filled a.names.now.block.now a.l a.w.now c.enter.new.w
filled c =
    let (q, n, r, small) = c.requires in
    let e = c.in_ok-enter.ensures in
    record { room = r; accepted = script-accepted _ q (sym e.fault) c.if-l-names.false; entered = e.entered }

pub returns-in_err-enter-clause-refused : goal.returns-in_err-enter-clause-refused
returns-in_err-enter-clause-refused c = λ r z.
    let e = c.in_err-enter.ensures.fault in
    rw (handed c.from_residual.ensures.1 z) (script-fault _ c.requires.0 (λ h. number-some _ (e ∙ h)) ∙ ap Err (sym e))

pub overflow_add-l : goal.overflow_add-l
overflow_add-l c =
    let (q, n, r, small) = c.requires in
    omega (arith, open_fits _ q, small)

pub returns-then-l-names-clause-refused : goal.returns-then-l-names-clause-refused
returns-then-l-names-clause-refused c = λ r z. rw (← err_same z) (script-left _ c.requires.0 (sym c.in_ok-enter.ensures.fault) c.if-l-names.true)

pub link-requires : goal.link-requires
link-requires c =
    let z = filled (goal.at.link-requires c).Else-l-names in
    (rw (filled-front z) z.entered, c.requires.3)

pub invariant_of-s : goal.invariant_of-s
invariant_of-s c = record { accepted = (filled (goal.at.invariant_of-s c).Else-l-names).accepted; fits = c.args.names.now.fits }

pub returns-clause-entered : goal.returns-clause-entered
returns-clause-entered c = λ s e.
    let z = filled (goal.at.returns-clause-entered c).Else-l-names in
    rw (← ok_same e) (refl, refl, linked-after z c.link.ensures, linked-length z c.link.ensures)
