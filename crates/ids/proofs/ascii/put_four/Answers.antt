-- `ascii::put_four`: four stores, one after the other. Assumes nothing.
use mathlib.Core.Bool.{true}
use mathlib.Core.List.{List, map}
use Prim.Native.Nat.{ℕ, ◌+◌}
use native.Mathlib.Omega.{arith}
use lib.ListN.{length-set}
use Rattle.lower.specs.Ascii.{lower_ascii}
use Rattle.text.specs.Units.{units_of}
use Rattle.ids.proofs.AsciiUnits.{four-bits, four-stored, lowered-there}
use Rattle.ids.proofs.WideUnits.{mapped-length}
use Rattle.ids.proofs.ascii.put_four.Goals as goal

pub bounds-units-i-2 : goal.bounds-units-i-2
bounds-units-i-2 c = simp length-set (omega arith)

pub bounds-units-i-3 : goal.bounds-units-i-3
bounds-units-i-3 c = simp length-set (omega arith)

pub bounds-units-i-4 : goal.bounds-units-i-4
bounds-units-i-4 c = simp length-set (omega arith)

pub shape_of-units : goal.shape_of-units
shape_of-units c = simp length-set

pub returns : goal.returns
returns c =
    let us : List ℕ = units_of true c.args.text.bytes.now in
    let i = c.args.i in
    let u0 = c.unit-a.ensures.0 in
    let u1 = c.unit-b.ensures.0 in
    let u2 = c.unit-c.ensures.0 in
    let u3 = c.unit-d.ensures.0 in (
      rw (u0, u1, u2, u3) (four-bits us i c.requires.0),
      rw (
        lowered-there us i c.lower_ascii.ensures u0,
        lowered-there us (i + 1) c.lower_ascii-2.ensures u1,
        lowered-there us (i + 2) c.lower_ascii-3.ensures u2,
        lowered-there us (i + 3) c.lower_ascii-4.ensures u3,
      )
          (four-stored (map lower_ascii us) i (rw mapped-length c.requires.0) c.args.units.now c.requires.1),
    )
