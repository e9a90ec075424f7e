-- `script::lower_ascii_unit`: a unit stays one. Assumes nothing.
use Prim.Native.Nat.{◌<◌}
use native.Mathlib.Omega.{arith}
use Rattle.lower.proofs.AsciiLaws.{ascii-unit}
use Rattle.ids.proofs.script.lower_ascii_unit.Goals as goal

pub overflow_cast-result : goal.overflow_cast-result
overflow_cast-result c =
    let q : c.lower_ascii-v.result < 65536 = rw c.lower_ascii-v.ensures (ascii-unit c.from.result (omega arith)) in
    omega arith
