-- `measure::window_len` meets its contract. The loop's invariant: what the first i units fall short of, and what the units take from there on.
-- Assumes nothing.
use mathlib.Core.Path.{◌≡◌}
use Prim.Native.Nat.{◌+◌, ◌*◌, ◌≤◌}
use lib.ListN.{drop}
use Rattle.text.specs.Units.{units_in}
use Rattle.text.specs.UnitLength.{units_length}
use Rattle.text.proofs.measure.window_len.Given as goal

abbrev pub invariant-loop-i : goal.invariant-loop-i
invariant-loop-i l =
    (l.short ≤ 3 * l.i)
    × (l.short + units_length (drop l.from (units_in l.part)) ≡ 3 * l.i + units_length (drop (l.from + l.i) (units_in l.part)))
