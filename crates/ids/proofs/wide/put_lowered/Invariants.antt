-- `wide::put_lowered`: a turn puts one unit more. Assumes nothing.
use mathlib.Core.Bool.{true}
use Prim.Native.Nat.{◌*◌}
use lib.ListN.{take, drop}
use Rattle.lower.specs.Lower.{lowered}
use Rattle.base.specs.Output.{Wrote}
use Rattle.text.specs.Utf16.{encode16, unit_bytes}
use Rattle.text.specs.Name.{base}
use Rattle.ids.proofs.wide.put_lowered.Given as goal

abbrev pub invariant-loop-i : goal.invariant-loop-i
invariant-loop-i l = Wrote l.initial.out (unit_bytes (take l.i (drop l.from (encode16 (lowered (base true l.text.bytes.now)))))) l.out (2 * l.i)
