-- `zenapi::names::names_ends` meets its contract: what was added and what is left are the sum.
use Prim.Native.Nat.{◌+◌, ◌^◌, ◌<◌}
use native.Mathlib.Omega.{arith}
use Rattle.zenapi.proofs.Ends.{Adding, adding_first, adding_end, adding_in, adding_named, adding_more}
use Rattle.zenapi.proofs.names.names_ends.Goals.{After-place-place}
use Rattle.zenapi.proofs.names.names_ends.Goals as goal

-- the next sum
more : (c : After-place-place) → (c.loop-i.total + (c.place-place.result.start + c.place-place.result.size) < 2 ^ 64) × Adding
    c.args.p.block.now c.args.p.layout (c.loop-i.total + (c.place-place.result.start + c.place-place.result.size)) (c.loop-i.i + 1)
more c =
    let p = c.args.p in
    adding_more _ _ p.accepted c.loop-i.invariant (rw c.export_count-i-end.ensures at c.loop-i-test.true) _ c.export_at.ensures
    p.bytes _ (rw (c.names-names.ensures.0, c.names-names.ensures.1, c.names-names.ensures.2) at c.place-place.ensures)

pub loop-i-init : goal.loop-i-init
loop-i-init c = adding_first _ _

pub export_at-requires : goal.export_at-requires
export_at-requires c =
    let p = c.args.p in
    adding_in _ _ p.accepted c.loop-i.invariant (rw c.export_count-i-end.ensures at c.loop-i-test.true)

pub place-place-requires : goal.place-place-requires
place-place-requires c =
    let p = c.args.p in
    rw (c.names-names.ensures.1, c.names-names.ensures.2)
    (adding_named _ _ p.accepted c.loop-i.invariant (rw c.export_count-i-end.ensures at c.loop-i-test.true) _ c.export_at.ensures)

pub overflow_add-total : goal.overflow_add-total
overflow_add-total c = omega (arith, (more (goal.at.overflow_add-total c).After-place-place).0)

pub overflow_add-total-in-loop-i : goal.overflow_add-total-in-loop-i
overflow_add-total-in-loop-i c = record { fits = (more (goal.at.overflow_add-total-in-loop-i c).After-place-place).0 }

pub loop-i-preserved : goal.loop-i-preserved
loop-i-preserved c = (more (goal.at.loop-i-preserved c).After-place-place).1

pub returns : goal.returns
returns c =
    let p = c.args.p in
    adding_end _ _ p.accepted c.loop-i.invariant (rw c.export_count-i-end.ensures at c.loop-i-test.false)
