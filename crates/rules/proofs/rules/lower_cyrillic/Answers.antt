-- `lower_cyrillic`: one law for each range. Assumes nothing.
use native.Mathlib.Omega.{arith}
use Rattle.rules.specs.QuickLaws.{ruled}
use Rattle.rules.specs.Runs.{at_400, at_410, at_430}
use Rattle.rules.proofs.rules.lower_cyrillic.Goals as goal

pub returns-in-0-to-1039 : goal.returns-in-0-to-1039
returns-in-0-to-1039 c = ruled (at_400 _ (omega arith) (omega arith)) (omega arith)

pub returns-in-0-to-1071 : goal.returns-in-0-to-1071
returns-in-0-to-1071 c = ruled (at_410 _ (omega arith) (omega arith)) (omega arith)

pub returns-in-0-to-1119 : goal.returns-in-0-to-1119
returns-in-0-to-1119 c = ruled (at_430 _ (omega arith) (omega arith)) (omega arith)
