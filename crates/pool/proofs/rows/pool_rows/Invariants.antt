-- The loop's invariant: the first r rows keep texts, which stand between the slots and `free`; all else is as it was. Assumes nothing.
use Prim.Native.Nat.{◌+◌, ◌*◌, ◌≤◌}
use lib.ListN.{length}
use Rattle.pool.specs.Pool.{State}
use Rattle.pool.proofs.rows.pool_rows.Given as goal

abbrev pub invariant-loop-r : goal.invariant-loop-r
invariant-loop-r l = record {
  slots : l.p.gap + 4 * l.p.slots ≤ l.free;
  room : l.free + 32 * l.p.rows ≤ length l.initial.w;
  state : State l.p.corpus.now l.p.block.now l.p.n l.p.classes l.p.limits.objects l.p.gap l.p.rows (l.p.gap + 4 * l.p.slots) l.free l.r l.initial.w l.w;
}
