-- `ascii::put_all`: after i turns the array's front has the first i units, and their bits are gathered. Assumes nothing.
use mathlib.Core.Path.{◌≡◌}
use mathlib.Core.Bool.{true}
use mathlib.Core.List.{map}
use lib.ListN.{take}
use Rattle.base.specs.Output.{Wrote}
use Rattle.lower.specs.Ascii.{lower_ascii}
use Rattle.text.specs.Units.{units_of}
use Rattle.ids.specs.LoweredUnits.{bits_from}
use Rattle.ids.proofs.ascii.put_all.Given as goal

abbrev pub invariant-loop-i : goal.invariant-loop-i
invariant-loop-i l =
    Wrote l.initial.units (take l.i (map lower_ascii (units_of true l.text.bytes.now))) l.units l.i
    × (l.bits ≡ bits_from 0 (take l.i (units_of true l.text.bytes.now)))
