-- `wide::put_lowered`: a turn puts one unit more. Assumes nothing.
use mathlib.Core.Bool.{true}
use mathlib.Core.List.{List}
use Prim.Native.Nat.{ℕ}
use native.Mathlib.Omega.{arith}
use Rattle.lower.specs.Lower.{lowered}
use Rattle.base.specs.OutputLaws.{wrote_none}
use Rattle.text.specs.Utf16.{encode16}
use Rattle.text.specs.Name.{base}
use Rattle.text.specs.UnitsLaws.{units_of_bound}
use Rattle.ids.proofs.NameUnits.{part_length}
use Rattle.ids.proofs.PutUnits.{put_next}
use Rattle.ids.proofs.wide.put_lowered.Goals as goal

pub loop-i-init : goal.loop-i-init
loop-i-init c = wrote_none _

pub overflow_add-from : goal.overflow_add-from
overflow_add-from c = omega (arith, units_of_bound true c.args.text.bytes.now)

pub loop-i-preserved : goal.loop-i-preserved
loop-i-preserved c =
    let t = c.args.text in
    let us : List ℕ = encode16 (lowered (base true t.bytes.now)) in
    rw c.put_unit.ensures
    (put_next us c.args.from c.loop-i.i c.loop-i.invariant (omega (arith, part_length true t.bytes.now t.fits t.well)) (omega arith)
    (rw (c.from.ensures.0, c.from.ensures.1) at c.lowered_unit-u.ensures.0))
