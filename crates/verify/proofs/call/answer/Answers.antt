-- `call::answer` meets its contract. Assumes nothing.
use Rattle.std.specs.Prelude.{Ok, Err}
use Rattle.std.proofs.lemmas.Result.{err_from_is_err_and}
use mathlib.Core.Path.{◌≡◌}
use native.Mathlib.Omega.{arith}
use borrow.Author.Rules.{rules}
use Rattle.base.specs.Refusal.{number}
use Rattle.scriptblock.specs.ScriptAnswers.{opened}
use Rattle.scriptblock.proofs.ScriptLaws.{script-shut}
use Rattle.meaning.specs.Call.{limits}
use Rattle.walk.specs.OpenLaws.{opened-broken, opened-script}
use Rattle.verify.specs.StepLaws.{answered-opened}
use Rattle.verify.proofs.call.answer.Goals.{In_err-layout, In_ok-layout}
use Rattle.verify.proofs.call.answer.Goals as goal

-- the opened script block, or what it is refused for
opened-at : (c : In_ok-layout) → opened c.in_ok-c.c.script.now ≡ Ok c.in_ok-layout.layout
opened-at c = search rules

shut : (c : In_err-layout) → let e = c.in_err-layout.field-0.0 in (opened c.in_ok-c.c.script.now ≡ Err (number e.why)) × (e.block ≡ 1)
shut c = search rules

pub returns-in_err-c : goal.returns-in_err-c
returns-in_err-c c =
    let p = err_from_is_err_and c.from_residual.result c.from_residual.ensures.1 in
    let (e, b) = c.in_err-c.ensures in
    rw (p.1, p.2) (answered-opened (opened-broken limits _ e) (rw b))

pub returns-in_err-layout : goal.returns-in_err-layout
returns-in_err-layout c =
    let r = c.from_residual-in_err-layout in
    let p = err_from_is_err_and r.result r.ensures.1 in
    let (e, b) = shut (goal.at.returns-in_err-layout c).In_err-layout in
    let opens = rw c.in_ok-c.ensures at (opened-script limits _ c.in_ok-c.c.begun (script-shut _ e)) in
    rw (p.1, p.2) (answered-opened opens (rw b))

pub with_table-requires : goal.with_table-requires
with_table-requires c = (opened-at (goal.at.with_table-requires c).In_ok-layout, omega arith)
