-- `id::put_end`: after each turn the buffer's front has the bytes of the first i units, 2 * i of them. Assumes nothing.
use mathlib.Core.List.{◌++◌}
use Prim.Native.Nat.{◌*◌}
use lib.ListN.{take}
use Rattle.base.specs.Output.{Wrote}
use Rattle.text.specs.Utf16.{unit_bytes}
use Rattle.lower.specs.Lower.{lowered}
use Rattle.ids.proofs.id.put_end.Given as goal

abbrev pub invariant-loop-i : goal.invariant-loop-i
invariant-loop-i l = Wrote l.initial.out (unit_bytes (take l.i (lowered l.name.base.now ++ l.name.suffix.now))) l.out (2 * l.i)
