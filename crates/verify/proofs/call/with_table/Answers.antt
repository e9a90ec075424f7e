-- `call::with_table` meets its contract. Assumes nothing.
use Rattle.std.specs.Prelude.{Err}
use Rattle.std.proofs.lemmas.Result.{err_from_is_err_and}
use mathlib.Core.Path.{◌≡◌, refl, sym, ap}
use native.Mathlib.Omega.{arith}
use borrow.Author.Rules.{rules}
use Rattle.base.specs.Reading.{run}
use Rattle.base.specs.Refusal.{number}
use Rattle.scriptblock.specs.Script.{script}
use Rattle.scriptblock.specs.ScriptAnswers.{script_answer}
use Rattle.meaning.specs.Call.{limits}
use Rattle.objects.specs.EnterLaws.{open_held}
use Rattle.walk.specs.Found.{Linked}
use Rattle.walk.specs.OpenLaws.{begun-bytes, begun-small, opened-script}
use Rattle.verify.specs.StepLaws.{answered-opened}
use Rattle.verify.proofs.Scanned.{front_length}
use Rattle.verify.proofs.call.with_table.Goals.{In_err-block, In_ok-block}
use Rattle.verify.proofs.call.with_table.Goals as goal

-- the script objects, entered and linked
entered : (c : In_ok-block) → let a = c.args in
    (c.in_ok-block.block.bytes ≡ a.c.now.script) × (c.in_ok-block.block.layout ≡ a.layout) × Linked a.c.now.script.now a.layout.count c.enter_script.new.w
entered c = search rules

-- or what the block is refused for
script-refused : (c : In_err-block) → let e = c.in_err-block.field-0.0 in
    (script_answer (run script 0 c.args.c.now.script.now) ≡ Err (number e.why)) × (e.block ≡ 1)
script-refused c = search rules

pub of-names-requires : goal.of-names-requires
of-names-requires c = open_held _ c.requires.0 (begun-bytes c.args.c.now.begun)

pub enter_script-requires : goal.enter_script-requires
enter_script-requires c =
    let (q, r) = c.requires in
    rw (c.of-names.ensures.0, c.of-names.ensures.1) (q, refl, r, begun-small c.args.c.now.begun)

pub returns-in_err-block : goal.returns-in_err-block
returns-in_err-block c =
    let p = err_from_is_err_and c.from_residual.result c.from_residual.ensures.1 in
    let (e, b) = script-refused (goal.at.returns-in_err-block c).In_err-block in
    rw (p.1, p.2) (answered-opened (opened-script limits _ c.args.c.now.begun e) (rw b))

pub slice_bounds-count_linked-end-2 : goal.slice_bounds-count_linked-end-2
slice_bounds-count_linked-end-2 c = sym (front_length (entered (goal.at.slice_bounds-count_linked-end-2 c).In_ok-block).2)

pub count_linked-t-requires : goal.count_linked-t-requires
count_linked-t-requires c =
    let (e, l, k) = entered (goal.at.count_linked-t-requires c).In_ok-block in
    rw e (record { objects = k.objects; holds = k.holds }, omega arith, begun-small c.args.c.now.begun)

pub invariant_of-s : goal.invariant_of-s
invariant_of-s c =
    let (e, l, k) = entered (goal.at.invariant_of-s c).In_ok-block in
    record { own = rw (e, l, c.of-names.ensures.0, c.of-names.ensures.1) (refl, refl) }

pub with_objects-requires : goal.with_objects-requires
with_objects-requires c =
    let (e, l, k) = entered (goal.at.with_objects-requires c).In_ok-block in
    (ap (λ x. x.now) e, refl, rw l k, record { is = rw e at c.count_linked-t.ensures })
