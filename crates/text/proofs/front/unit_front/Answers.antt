-- `front::unit_front` meets its contract: the lowest bit that is set is of the first unit that is not ASCII. Assumes nothing.
use native.Mathlib.Omega.{arith}
use Rattle.text.specs.FrontLaws.{front-units}
use Rattle.text.specs.UnitsLaws.{units_of-length}
use Rattle.text.proofs.front.unit_front.Goals as goal

pub overflow_mul-i : goal.overflow_mul-i
overflow_mul-i c = omega (arith, units_of-length c.args.bytes.now)

pub le64-requires : goal.le64-requires
le64-requires c = omega (arith, units_of-length c.args.bytes.now)

pub returns : goal.returns
returns c =
    rw c.le64.ensures (front-units c.args.bytes.now c.args.i (λ i. (c.type_inv.bytes i).fits) c.requires)
