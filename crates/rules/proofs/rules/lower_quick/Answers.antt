-- `lower_quick`: by range. Assumes nothing.
use native.Mathlib.Omega.{arith}
use Rattle.rules.specs.QuickLaws.{ruled, tabled}
use Rattle.rules.specs.Runs.{at_2_cf3, at_A640, at_A7F6, at_FF21, at_FF3B}
use Rattle.rules.proofs.rules.lower_quick.Goals as goal

pub returns-in-0-to-42559 : goal.returns-in-0-to-42559
returns-in-0-to-42559 c = ruled (at_2_cf3 _ (omega arith) (omega arith)) (omega arith)

pub returns-in-0-to-42997 : goal.returns-in-0-to-42997
returns-in-0-to-42997 c = tabled (at_A640 _ (omega arith) (omega arith))

pub returns-in-0-to-65312 : goal.returns-in-0-to-65312
returns-in-0-to-65312 c = ruled (at_A7F6 _ (omega arith) (omega arith)) (omega arith)

pub returns-in-0-to-65338 : goal.returns-in-0-to-65338
returns-in-0-to-65338 c = ruled (at_FF21 _ (omega arith) (omega arith)) (omega arith)

pub returns-in_default : goal.returns-in_default
returns-in_default c = ruled (at_FF3B _ (omega arith) (omega arith)) (omega arith)
