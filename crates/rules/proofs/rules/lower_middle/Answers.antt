-- `lower_middle`: by range. Assumes nothing.
use native.Mathlib.Omega.{arith}
use Rattle.rules.specs.QuickLaws.{ruled}
use Rattle.rules.specs.Runs.{at_590}
use Rattle.rules.proofs.rules.lower_middle.Goals as goal

pub returns-in-0-to-4255 : goal.returns-in-0-to-4255
returns-in-0-to-4255 c = ruled (at_590 _ (omega arith) (omega arith)) (omega arith)
