-- `eight::put_few` meets its contract. The loop's invariant: i bytes are written, each as a unit. Assumes nothing.
use mathlib.Core.Path.{◌≡◌}
use Prim.Native.Nat.{◌*◌, ◌-◌, ◌≤◌}
use lib.ListN.{length, take, drop}
use Rattle.base.specs.Output.{Wrote}
use Rattle.text.specs.Utf16.{unit_bytes}
use Rattle.decode.proofs.eight.put_few.Given as goal

abbrev pub invariant-loop-i : goal.invariant-loop-i
invariant-loop-i g l = (l.i ≤ g.row.N) × (length l.out ≡ length l.initial.out) × Wrote l.initial.out (unit_bytes (take l.i (drop l.at l.s))) l.out (2 * l.i)

abbrev pub decreases-loop-i : goal.decreases-loop-i
decreases-loop-i g l = g.row.N - l.i
