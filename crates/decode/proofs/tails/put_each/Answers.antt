-- `tails::put_each` meets its contract. The loop's invariant: what of the bytes so far is kept is written. Assumes nothing.
use native.Mathlib.Omega.{arith}
use Rattle.decode.proofs.TailsLaws.{filling_room, filling_byte, filling_all}
use Rattle.decode.proofs.tails.put_each.Goals as goal

pub bounds-out-n : goal.bounds-out-n
bounds-out-n c =
    let k = c.loop-b.invariant in
    omega (arith, filling_room k (omega arith), k.room, k.same)

pub loop-b-preserved : goal.loop-b-preserved
loop-b-preserved c = rw (c.raised.ensures, c.from-n.ensures) (filling_byte c.loop-b.invariant (omega arith))

pub returns : goal.returns
returns c = filling_all c.loop-b.invariant (omega arith)
