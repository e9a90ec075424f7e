-- `decode::write::put_latin1` meets its contract: what is kept of the bytes is the text. The loop's invariant: what is kept of the bytes before
-- place i is written. Assumes nothing.
use Prim.Native.Nat.{◌-◌, ◌<◌}
use lib.ListN.{take, get_or}
use Rattle.decode.specs.Tails.{Filling}
use Rattle.decode.proofs.write.put_latin1.Given as goal

abbrev pub invariant-loop-i : goal.invariant-loop-i
invariant-loop-i l = (0 < l.i) × (l.i < l.to) × Filling l.fn.out 0 (take l.to l.s) l.out l.i l.n (get_or l.s (l.i - 1) 0)

abbrev pub decreases-loop-i : goal.decreases-loop-i
decreases-loop-i l = l.to - l.i
