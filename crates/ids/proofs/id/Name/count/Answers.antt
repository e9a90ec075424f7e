-- `id::Name::count`: the units of the base and those of the suffix. Assumes nothing.
use mathlib.Core.Path.{sym}
use native.Mathlib.Omega.{arith}
use Rattle.text.specs.UnitsLaws.{units_of_bound}
use Rattle.ids.proofs.NameUnits.{name-length}
use Rattle.ids.proofs.id.Name.count.Goals as goal

pub overflow_add-result : goal.overflow_add-result
overflow_add-result c = let p = c.args.self.text.part in omega (arith, units_of_bound p.wide p.bytes.now)

pub returns : goal.returns
returns c =
    let n = c.args.self in
    let p = n.text.part in
    rw c.count.ensures (sym (name-length p.wide p.bytes.now p.fits n.text.well n.suffix.now))
