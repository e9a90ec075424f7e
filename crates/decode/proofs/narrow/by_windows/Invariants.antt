-- `decode::narrow::by_windows` meets its contract. The loop's invariant: the bytes up to `at` are right, and what is seen of them.
-- Assumes nothing.
use Prim.Native.Nat.{◌-◌, ◌≤◌, ◌<◌}
use Rattle.decode.specs.NarrowLaws.{Good}
use Rattle.decode.proofs.narrow.by_windows.Given as goal

abbrev pub invariant-loop-at : goal.invariant-loop-at
invariant-loop-at l = (l.from < l.at) × (l.at ≤ l.to) × Good l.s l.from l.at l.units l.latin

abbrev pub decreases-loop-at : goal.decreases-loop-at
decreases-loop-at l = l.to - l.at
