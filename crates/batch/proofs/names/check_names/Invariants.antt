-- `check_names` meets its contract: what is still to be read from here decides as the whole reading does.
use mathlib.Core.Path.{◌≡◌}
use Prim.Native.Nat.{◌+◌, ◌*◌, ◌-◌, ◌≤◌}
use Rattle.base.specs.Reading.{walk}
use Rattle.base.specs.ReadingRows.{cells}
use Rattle.batch.specs.Batch.{head_at, strings}
use Rattle.batch.specs.BatchAnswers.{checked}
use Rattle.batch.proofs.names.check_names.Given as goal

abbrev pub invariant-loop-i : goal.invariant-loop-i
invariant-loop-i l = record {
  within : l.p ≤ l.n.end;
  same : checked (walk (strings (cells (head_at l.s) 2 l.n.headers l.n.count) (l.n.end - l.n.strings)) l.s l.n.strings)
      ≡ checked (walk (strings (cells (head_at l.s) 2 (l.n.headers + 2 * l.i) (l.n.count - l.i)) (l.n.end - l.p)) l.s l.p);
}
