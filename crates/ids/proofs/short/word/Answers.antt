-- `short::word`: two half words. Assumes nothing.
use native.Mathlib.Omega.{arith}
use Rattle.ids.proofs.ShortUnits.{word-halves}
use Rattle.ids.proofs.short.word.Goals as goal

pub returns : goal.returns
returns g c = omega (arith, c.pair.ensures, c.pair-2.ensures, word-halves (g.U.Units.units c.args.name) c.args.i c.requires.0)
