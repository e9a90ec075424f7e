-- `cases::replay` is safe. The loop's invariant: no more differ than were replayed. Assumes nothing.
use Prim.Native.Nat.{◌≤◌}
use Rattle.replay.proofs.cases.replay.Given as goal

abbrev pub invariant-loop-case : goal.invariant-loop-case
invariant-loop-case l = l.differ ≤ l.case
