-- `wide::WideName::count`: the units of the base and those of the suffix. Assumes nothing.
use mathlib.Core.Path.{sym}
use mathlib.Core.Bool.{true}
use native.Mathlib.Omega.{arith}
use Rattle.text.specs.UnitsLaws.{units_of_bound}
use Rattle.ids.proofs.NameUnits.{name-length}
use Rattle.ids.proofs.wide.WideName.count.Goals as goal

pub overflow_add-result : goal.overflow_add-result
overflow_add-result c = omega (arith, units_of_bound true c.args.self.text.bytes.now)

pub returns : goal.returns
returns c =
    let n = c.args.self in
    rw c.count.ensures (sym (name-length true n.text.bytes.now n.text.fits n.text.well n.suffix.now))
