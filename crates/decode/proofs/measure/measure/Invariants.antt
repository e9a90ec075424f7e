-- `decode::measure::measure` meets its contract. The loop's invariant: the bytes are measured as what is passed, added to those from `at`
-- on. Assumes nothing.
use mathlib.Core.Path.{◌≡◌}
use Prim.Native.Nat.{◌-◌, ◌≤◌}
use lib.ListN.{length, drop}
use Rattle.text.specs.Utf8.{from_utf8}
use Rattle.decode.specs.Measure.{measured}
use Rattle.decode.specs.Step.{added}
use Rattle.decode.proofs.measure.measure.Given as goal

abbrev pub invariant-loop-at : goal.invariant-loop-at
invariant-loop-at l =
    (l.at ≤ length l.s) × (l.units ≤ l.at) × (measured (from_utf8 l.s) ≡ added l.units l.latin (measured (from_utf8 (drop l.at l.s))))

abbrev pub decreases-loop-at : goal.decreases-loop-at
decreases-loop-at l = length l.s - l.at
