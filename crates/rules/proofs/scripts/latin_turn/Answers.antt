-- `latin_turn`: the sum of the parities. Assumes nothing.
use native.Mathlib.Omega.{arith}
use Rattle.rules.specs.Scripts.{latin_turn}
use Rattle.rules.proofs.scripts.latin_turn.Goals as goal

pub returns : goal.returns
unfolding latin_turn
returns c = (rw (c.pick.ensures.0, c.latin_odd.ensures), omega arith)
