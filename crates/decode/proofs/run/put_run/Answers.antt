-- `run::put_run` meets its contract: each first byte makes the next one a first byte too. Assumes nothing.
use Rattle.std.proofs.Common.{refl, ◌+◌, ◌*◌, arith}
use Rattle.base.specs.OutputLaws.{wrote_none, wrote_as}
use Rattle.text.specs.UnitBytesLaws.{wrote-one}
use Rattle.decode.specs.Run.{four_units}
use Rattle.decode.proofs.RunLaws.{four-leads, well-then}
use Rattle.decode.proofs.run.put_run.Goals as goal

pub value_at-requires : goal.value_at-requires
value_at-requires g c =
    let l = four-leads _ _ c.args.s.now c.args.at c.requires.1 in
    (omega (arith, l.there, g.met.L.Lead.few), c.requires.0, l.lead_0)

pub value_at-requires-2 : goal.value_at-requires-2
value_at-requires-2 g c =
    let a = c.args in
    let k = g.L.Lead.SIZE in
    let l = four-leads _ _ a.s.now a.at c.requires.1 in
    rw c.SIZE-size.ensures (omega (arith, l.there, g.met.L.Lead.few), well-then c.value_at.ensures.1 c.requires.0 (a.at + k) refl, l.lead_1)

pub value_at-requires-3 : goal.value_at-requires-3
value_at-requires-3 g c =
    let a = c.args in
    let k = g.L.Lead.SIZE in
    let l = four-leads _ _ a.s.now a.at c.requires.1 in
    let w = well-then c.value_at.ensures.1 c.requires.0 (a.at + c.SIZE-size.result) (omega arith) in
    let x = well-then c.value_at-2.ensures.1 w (a.at + 2 * k) (omega arith) in
    rw c.SIZE-size.ensures (omega (arith, l.there, g.met.L.Lead.few), x, l.lead_2)

pub value_at-requires-4 : goal.value_at-requires-4
value_at-requires-4 g c =
    let a = c.args in
    let k = g.L.Lead.SIZE in
    let l = four-leads _ _ a.s.now a.at c.requires.1 in
    let w = well-then c.value_at.ensures.1 c.requires.0 (a.at + c.SIZE-size.result) (omega arith) in
    let x = well-then c.value_at-2.ensures.1 w (a.at + 2 * c.SIZE-size.result) (omega arith) in
    let y = well-then c.value_at-3.ensures.1 x (a.at + 3 * k) (omega arith) in
    rw c.SIZE-size.ensures (omega (arith, l.there, g.met.L.Lead.few), y, l.lead_3)

pub returns : goal.returns
unfolding four_units
returns g c =
    let a = wrote-one 0 _ (wrote_none c.args.out.now) (omega arith) c.put_unit.ensures in
    let b = wrote-one 1 _ a (omega arith) c.put_unit-2.ensures in
    let d = wrote-one 3 _ (wrote-one 2 _ b (omega arith) c.put_unit-3.ensures) (omega arith) c.put_unit-4.ensures in
    wrote_as d (rw (c.value_at.ensures.0, c.value_at-2.ensures.0, c.value_at-3.ensures.0, c.value_at-4.ensures.0, c.SIZE-size.ensures))
