-- `wide::put_script`: a turn puts one unit more, and gathers it. Assumes nothing.
use mathlib.Core.Path.{◌≡◌}
use mathlib.Core.Bool.{true}
use mathlib.Core.List.{map}
use Prim.Native.Nat.{◌*◌}
use lib.ListN.{take, drop}
use Rattle.base.specs.Output.{Wrote}
use Rattle.text.specs.Utf16.{unit_bytes}
use Rattle.text.specs.Units.{units_of}
use Rattle.ids.proofs.wide.put_script.Given as goal

abbrev pub invariant-loop-i : goal.invariant-loop-i
invariant-loop-i g l =
    (l.units ≡ g.S.Script.gathered (take l.i (drop l.from (units_of true l.text.bytes.now))))
    × Wrote l.initial.out (unit_bytes (take l.i (drop l.from (map g.S.Script.lowered (units_of true l.text.bytes.now))))) l.out (2 * l.i)
