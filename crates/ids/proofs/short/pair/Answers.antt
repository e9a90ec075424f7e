-- `short::pair`: a unit of 16 bits shifted by 16 loses none. Assumes nothing.
use native.Mathlib.Omega.{arith}
use Rattle.ids.proofs.ShortUnits.{pair_of}
use Rattle.ids.proofs.short.pair.Goals as goal

pub returns : goal.returns
returns g c = omega (arith, c.unit.ensures, c.unit-2.ensures, pair_of (g.U.Units.units c.args.name) c.args.i c.requires.0)
