-- `read_full` ends: with each read that finds something there is less room. What is read stays within the room. Assumes nothing.
use Rattle.std.proofs.Common.{length, ◌-◌, ◌≤◌, ◌≡◌}
use Rattle.replay.proofs.read_full.Given as goal

abbrev pub invariant-loop-n : goal.invariant-loop-n
invariant-loop-n l = (l.n ≤ length l.room) × (length l.room ≡ length l.initial.room)

abbrev pub decreases-loop-n : goal.decreases-loop-n
decreases-loop-n l = length l.room - l.n
