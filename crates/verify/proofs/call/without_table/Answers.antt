-- `call::without_table` meets its contract. Assumes nothing.
use Rattle.std.specs.Prelude.{Ok, Err}
use Rattle.std.proofs.lemmas.Result.{err_from_is_err_and}
use mathlib.Core.Path.{◌≡◌, refl, sym, ap}
use native.Mathlib.Omega.{arith}
use borrow.Author.Rules.{rules}
use Rattle.base.specs.Reading.{run}
use Rattle.base.specs.Refusal.{number}
use Rattle.scriptblock.specs.Script.{script}
use Rattle.scriptblock.specs.ScriptAnswers.{script_answer}
use Rattle.scriptblock.proofs.ScriptFacts.{script-facts}
use Rattle.meaning.specs.Call.{limits}
use Rattle.scan.specs.BlockLaws.{blocks-refused}
use Rattle.walk.specs.OpenLaws.{begun-few, begun-small, opened-script, opened_package}
use Rattle.verify.specs.StepLaws.{answered-opened}
use Rattle.verify.proofs.call.without_table.Goals.{In_err-block, In_ok-block}
use Rattle.verify.proofs.call.without_table.Goals as goal

-- the accepted script block
script-is : (c : In_ok-block) → c.in_ok-block.block.bytes ≡ c.args.c.now.script
script-is c = search rules

script-at : (c : In_ok-block) → script_answer (run script 0 c.args.c.now.script.now) ≡ Ok c.in_ok-block.block.layout
script-at c = rw (script-is c) at c.in_ok-block.block.accepted

-- or what it is refused for
script-refused : (c : In_err-block) → let e = c.in_err-block.field-0.0 in
    (script_answer (run script 0 c.args.c.now.script.now) ≡ Err (number e.why)) × (e.block ≡ 1)
script-refused c = search rules

pub returns-in_err-block : goal.returns-in_err-block
returns-in_err-block c =
    let p = err_from_is_err_and c.from_residual.result c.from_residual.ensures.1 in
    let (e, b) = script-refused (goal.at.returns-in_err-block c).In_err-block in
    rw (p.1, p.2) (answered-opened (opened-script limits _ c.args.c.now.begun e) (rw b))

pub check_packages-requires : goal.check_packages-requires
check_packages-requires c = rw c.packages.ensures.2 (begun-few c.args.c.now.begun).0

pub returns-in_err-check_packages : goal.returns-in_err-check_packages
returns-in_err-check_packages c =
    let r = c.from_residual-in_err-check_packages in
    let p = err_from_is_err_and r.result r.ensures.1 in
    let (o, x) = script-facts _ _ (script-at (goal.at.returns-in_err-check_packages c).In_ok-block) in
    let e = rw (c.packages.ensures.0, c.packages.ensures.1, c.packages.ensures.2) at c.in_err-check_packages.ensures.is in
    rw (p.1, p.2) (answered-opened (opened_package limits _ c.args.c.now.begun x.is (blocks-refused _ (sym e))) refl)

pub invariant_of-s : goal.invariant_of-s
invariant_of-s c = let n = c.names-names.ensures in record { own = (ap (λ x. x.now) n.0, n.1) }

pub count_scanned-t-requires : goal.count_scanned-t-requires
count_scanned-t-requires c = (omega arith, rw (script-is (goal.at.count_scanned-t-requires c).In_ok-block) (begun-small c.args.c.now.begun))

pub compare-requires : goal.compare-requires
compare-requires c =
    let a = rw (c.packages.ensures.0, c.packages.ensures.1, c.packages.ensures.2) at c.in_ok-check_packages.ensures.all in
    let e = script-is (goal.at.compare-requires c).In_ok-block in
    (a, ap (λ x. x.now) e, refl, record { is = rw e at c.count_scanned-t.ensures })
