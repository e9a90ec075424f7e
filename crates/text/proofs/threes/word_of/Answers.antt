-- `threes::word_of` meets its contract. Assumes nothing.
use native.Mathlib.Omega.{arith}
use Rattle.text.proofs.ThreesLoop.{word-three}
use Rattle.text.proofs.threes.word_of.Goals as goal

pub returns : goal.returns
returns c = omega (arith, c.from-c.ensures, word-three c.args.u c.requires.0 c.requires.1)
