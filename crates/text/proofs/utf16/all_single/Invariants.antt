-- `utf16::all_single` meets its contract. The loop's invariant: none is a surrogate where none of those passed is and none from i on. Assumes nothing.
use mathlib.Core.Path.{◌≡◌}
use mathlib.Core.Bool.{true, ◌&&◌}
use lib.ListN.{drop}
use Rattle.text.specs.Units.{units_of}
use Rattle.text.specs.UnitLength.{all_single}
use Rattle.text.proofs.utf16.all_single.Given as goal

abbrev pub invariant-loop-i : goal.invariant-loop-i
invariant-loop-i l = all_single (units_of true l.bytes) ≡ (l.all && all_single (drop l.i (units_of true l.bytes)))
