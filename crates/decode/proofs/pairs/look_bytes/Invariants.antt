-- `pairs::look_bytes` meets its contract. The loop's invariant: what the first k bytes mean is there. Assumes nothing.
use mathlib.Core.Path.{◌≡◌}
use Prim.Native.Nat.{◌-◌, ◌≤◌}
use lib.ListN.{length}
use Rattle.decode.specs.Tails.{Meant}
use Rattle.decode.proofs.pairs.look_bytes.Given as goal

abbrev pub invariant-loop-k : goal.invariant-loop-k
invariant-loop-k l = (l.k ≤ 32) × (length l.bytes ≡ 32) × Meant l.s l.i l.k l.bytes

abbrev pub decreases-loop-k : goal.decreases-loop-k
decreases-loop-k l = 32 - l.k
