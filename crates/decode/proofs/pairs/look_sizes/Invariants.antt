-- `pairs::look_sizes` meets its contract. The loop's invariant: the sizes of the first k places are there. Assumes nothing.
use mathlib.Core.Path.{◌≡◌}
use Prim.Native.Nat.{◌-◌, ◌≤◌}
use lib.ListN.{length}
use Rattle.decode.specs.Tails.{Counted}
use Rattle.decode.proofs.pairs.look_sizes.Given as goal

abbrev pub invariant-loop-k : goal.invariant-loop-k
invariant-loop-k l = (l.k ≤ 32) × (length l.sizes ≡ 32) × Counted l.s l.i l.k l.sizes

abbrev pub decreases-loop-k : goal.decreases-loop-k
decreases-loop-k l = 32 - l.k
