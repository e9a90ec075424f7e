-- `zen::summary::check_offsets` meets its contract. The loop's invariant: what is left to read from here answers as the whole.
use Prim.Native.Nat.{◌+◌, ◌*◌, ◌-◌, ◌≤◌}
use mathlib.Core.Path.{◌≡◌}
use lib.ListN.{length}
use Rattle.base.specs.Reading.{walk, rows}
use Rattle.batch.specs.BatchAnswers.{checked}
use Rattle.zen.specs.Zen.{offset}
use Rattle.zen.proofs.summary.check_offsets.Given as goal

abbrev pub invariant-loop-i : goal.invariant-loop-i
invariant-loop-i l =
    (l.from + 4 * l.i ≤ length l.s) × (checked (walk (rows 7 offset) l.s l.from) ≡ checked (walk (rows (7 - l.i) offset) l.s (l.from + 4 * l.i)))
