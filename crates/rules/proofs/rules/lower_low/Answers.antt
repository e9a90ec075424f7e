-- `lower_low`: by range. Assumes nothing.
use mathlib.Core.Path.{sym, ◌∙◌}
use native.Mathlib.Omega.{arith}
use Rattle.lower.proofs.LowerLaws.{lower-single}
use Rattle.rules.specs.QuickLaws.{ruled}
use Rattle.rules.specs.Runs.{latin, at_250}
use Rattle.rules.proofs.rules.lower_low.Goals as goal

pub returns-in-0-to-383 : goal.returns-in-0-to-383
returns-in-0-to-383 c = ruled (latin _ (omega arith) (omega arith) ∙ sym c.lower_latin.ensures) (omega (arith, lower-single c.args.c (omega arith), c.lower_latin.ensures))

pub returns-in-0-to-879 : goal.returns-in-0-to-879
returns-in-0-to-879 c = ruled (at_250 _ (omega arith) (omega arith)) (omega arith)
