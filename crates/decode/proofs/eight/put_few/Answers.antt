-- `eight::put_few` meets its contract. The loop's invariant: i bytes are written, each as a unit. Assumes nothing.
use Rattle.std.proofs.Common.{◌≡◌, sym, ◌∙◌, ◌<◌, length, drop, get_or, arith, length-drop, get_or-drop}
use Rattle.base.specs.OutputLaws.{wrote_none, wrote_as, wrote-length}
use Rattle.text.specs.UnitBytesLaws.{wrote-one}
use Rattle.decode.proofs.EightLaws.{units-next}
use Rattle.decode.proofs.eight.put_few.Goals as goal

pub loop-i-init : goal.loop-i-init
loop-i-init g c = (omega arith, omega arith, wrote_none _)

pub loop-i-preserved : goal.loop-i-preserved
loop-i-preserved g c =
    let a = c.args in
    let l = c.loop-i in
    let there : l.i < length (drop a.at a.s.now) = simp length-drop (omega arith) in
    let byte : c.from.result ≡ get_or (drop a.at a.s.now) l.i 0 = c.from.ensures ∙ sym (get_or-drop a.at a.s.now l.i 0) in
    let w = wrote_as (wrote-one l.i c.from.result l.invariant.2 (omega arith) c.put_unit.ensures) (units-next (drop a.at a.s.now) l.i c.from.result there byte) in
    (omega arith, wrote-length w, w)
