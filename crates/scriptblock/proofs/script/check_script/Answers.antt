-- The block's answer in two steps.
use mathlib.Core.Path.{sym, ap, ◌∙◌}
use native.Mathlib.Omega.{arith}
use Rattle.std.specs.Prelude.{Err}
use Rattle.std.proofs.lemmas.Result.{err_from_is_err_and}
use Rattle.base.proofs.Numbers.{number-some}
use Rattle.scriptblock.proofs.ScriptLaws.{open_fits, script-shut, script-fault, script-left, script-accepted}
use Rattle.scriptblock.proofs.script.check_script.Goals as goal

pub returns-in_err-l : goal.returns-in_err-l
returns-in_err-l c =
    let p = err_from_is_err_and c.from_residual.result c.from_residual.ensures.1 in
    rw (p.1, p.2) (sym (script-shut c.args.b.now (sym c.in_err-l.ensures)))

pub check_entries-requires : goal.check_entries-requires
check_entries-requires c = open_fits c.args.b.now (sym c.in_ok-l.ensures)

pub returns-in_err-check_entries : goal.returns-in_err-check_entries
returns-in_err-check_entries c =
    let r = c.from_residual-in_err-check_entries in
    let p = err_from_is_err_and r.result r.ensures.1 in
    let e = c.in_err-check_entries.ensures in
    rw (p.1, p.2) (ap Err e ∙ sym (script-fault c.args.b.now (sym c.in_ok-l.ensures) (λ z. number-some _ (e ∙ z))))

pub overflow_mul-l : goal.overflow_mul-l
overflow_mul-l c = omega (arith, open_fits c.args.b.now (sym c.in_ok-l.ensures))

pub overflow_add-l : goal.overflow_add-l
overflow_add-l c = omega (arith, open_fits c.args.b.now (sym c.in_ok-l.ensures))

pub returns-then-l-b : goal.returns-then-l-b
returns-then-l-b c = sym (script-left c.args.b.now (sym c.in_ok-l.ensures) (sym c.in_ok-check_entries.ensures) (omega arith))

pub returns : goal.returns
returns c = sym (script-accepted c.args.b.now (sym c.in_ok-l.ensures) (sym c.in_ok-check_entries.ensures) (omega arith))
