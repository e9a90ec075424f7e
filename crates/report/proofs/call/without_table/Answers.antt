-- `report::call::without_table` meets its contract. Assumes nothing.
use Rattle.std.specs.Prelude.{Ok, Err}
use Rattle.std.proofs.lemmas.Result.{err_from_is_err_and}
use mathlib.Core.Path.{◌≡◌, refl, sym, ap}
use borrow.Author.Rules.{rules}
use Rattle.base.specs.Reading.{run}
use Rattle.base.specs.Refusal.{number}
use Rattle.scriptblock.specs.Script.{script}
use Rattle.scriptblock.specs.ScriptAnswers.{script_answer}
use Rattle.scriptblock.proofs.ScriptFacts.{script-facts}
use Rattle.scan.specs.BlockLaws.{blocks-refused}
use Rattle.resolve.specs.Rows.{limits_of}
use Rattle.walk.specs.OpenLaws.{begun-few, opened-script, opened_package}
use Rattle.report.specs.CallLaws.{work-few, refused-opened}
use Rattle.report.proofs.call.without_table.Goals.{In_err-block, In_ok-block}
use Rattle.report.proofs.call.without_table.Goals as goal

-- the accepted script block, or what it is refused for
script-is : (c : In_ok-block) → c.in_ok-block.block.bytes ≡ c.args.c.now.script
script-is c = search rules

script-at : (c : In_ok-block) → script_answer (run script 0 c.args.c.now.script.now) ≡ Ok c.in_ok-block.block.layout
script-at c = rw (script-is c) at c.in_ok-block.block.accepted

script-refused : (c : In_err-block) → let e = c.in_err-block.field-0.0 in
    (script_answer (run script 0 c.args.c.now.script.now) ≡ Err (number e.why)) × (e.block ≡ 1)
script-refused c = search rules

pub returns-in_err-block : goal.returns-in_err-block
returns-in_err-block c = λ l lookups work room q h.
    let p = err_from_is_err_and c.from_residual.result c.from_residual.ensures.1 in
    let (e, b) = script-refused (goal.at.returns-in_err-block c).In_err-block in
    let opens = opened-script (limits_of lookups c.args.limit) _ c.args.c.now.begun e in
    rw (p.1, p.2) (refused-opened opens (rw b))

pub check_packages-requires : goal.check_packages-requires
check_packages-requires c = rw c.packages.ensures.2 (begun-few c.args.c.now.begun).0

pub returns-in_err-check_packages : goal.returns-in_err-check_packages
returns-in_err-check_packages c = λ l lookups work room q h.
    let r = c.from_residual-in_err-check_packages in
    let p = err_from_is_err_and r.result r.ensures.1 in
    let (o, x) = script-facts _ _ (script-at (goal.at.returns-in_err-check_packages c).In_ok-block) in
    let e = rw (c.packages.ensures.0, c.packages.ensures.1, c.packages.ensures.2) at c.in_err-check_packages.ensures.is in
    let opens = opened_package (limits_of lookups c.args.limit) _ c.args.c.now.begun x.is (blocks-refused _ (sym e)) in
    rw (p.1, p.2) (refused-opened opens refl)

pub refuse_short-requires : goal.refuse_short-requires
refuse_short-requires c =
    let a = rw (c.packages.ensures.0, c.packages.ensures.1, c.packages.ensures.2) at c.in_ok-check_packages.ensures.all in
    (a, ap (λ x. x.now) (script-is (goal.at.refuse_short-requires c).In_ok-block))

pub returns : goal.returns
returns c = λ l lookups work room q h.
    let (o, x) = script-facts _ _ (script-at (goal.at.returns c).In_ok-block) in
    c.refuse_short.ensures o lookups work room x.is (work-few c.args.limit _ _ q x h)
