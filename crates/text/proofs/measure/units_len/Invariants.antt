-- `measure::units_len` meets its contract. The loop's invariant: what the units passed take, and what those from i on take. Assumes nothing.
use mathlib.Core.Path.{◌≡◌}
use Prim.Native.Nat.{◌+◌, ◌*◌, ◌-◌, ◌≤◌}
use lib.ListN.{drop}
use Rattle.text.specs.Units.{units_in}
use Rattle.text.specs.UnitLength.{units_length}
use Rattle.text.proofs.measure.units_len.Given as goal

abbrev pub invariant-loop-i : goal.invariant-loop-i
invariant-loop-i l = (l.i ≤ l.n) × (l.at ≤ 3 * l.i) × (l.at + units_length (drop l.i (units_in l.part)) ≡ units_length (units_in l.part))

abbrev pub decreases-loop-i : goal.decreases-loop-i
decreases-loop-i l = l.n - l.i
