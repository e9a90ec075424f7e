-- `call::answer` meets its contract: 27 where the check says so, 28 where the buffer is too short, else the header. Assumes nothing.
use Rattle.std.specs.Prelude.{Some}
use Rattle.std.proofs.lemmas.Result.{err_from_is_err_and}
use mathlib.Core.Path.{refl}
use Rattle.zen.proofs.Handed.{there_was, none_was}
use Rattle.header.specs.Parts.{Says}
use Rattle.header.specs.AnswerLaws.{said-none, said-short, header-room, said-header}
use Rattle.header.proofs.Rooms.{small}
use Rattle.header.proofs.call.answer.Goals.{In_ok-parts}
use Rattle.header.proofs.call.answer.Goals as goal

-- what the check says
said : (c : In_ok-parts) → Says c.args.description.now (Some c.in_ok-parts.parts)
said c = rw (there_was _ _ c.in_ok-parts.ensures.value) at c.check.ensures

pub returns-in_err-parts : goal.returns-in_err-parts
returns-in_err-parts c =
    let p = err_from_is_err_and c.from_residual.result c.from_residual.ensures.1 in
    let q = none_was _ _ c.in_err-parts.ensures.value in
    rw (p.1, p.2, q.1) (said-none c.args.description.now c.args.header.now (rw q.0 at c.check.ensures) refl)

pub regions_of-requires : goal.regions_of-requires
regions_of-requires c = let (e, w) = said (goal.at.regions_of-requires c).In_ok-parts in small c.args.description.now w _ e

pub returns-then-header-plan : goal.returns-then-header-plan
returns-then-header-plan c =
    let (e, w) = said (goal.at.returns-then-header-plan c).In_ok-parts in
    let r = c.regions_of in
    said-short c.args.description.now c.args.header.now w _ e r.result r.ensures c.if-header-plan.true refl

pub put_header-requires : goal.put_header-requires
put_header-requires c =
    let (e, w) = said (goal.at.put_header-requires c).In_ok-parts in
    let r = c.regions_of in
    header-room c.args.description.now c.args.header.now w _ e r.result r.ensures c.if-header-plan.false

pub returns : goal.returns
returns c =
    let (e, w) = said (goal.at.returns c).In_ok-parts in
    let r = c.regions_of in
    said-header c.args.description.now c.args.header.now w _ e r.result r.ensures c.if-header-plan.false c.put_header.ensures
