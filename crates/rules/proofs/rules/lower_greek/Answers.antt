-- `lower_greek`: one law for each range. Assumes nothing.
use native.Mathlib.Omega.{arith}
use Rattle.rules.specs.QuickLaws.{ruled, tabled}
use Rattle.rules.specs.Runs.{at_391, at_3_a2, at_3_a3, at_3_ac, at_3_cf, at_3_d8, at_3_f0}
use Rattle.rules.proofs.rules.lower_greek.Goals as goal

pub returns-in-0-to-929 : goal.returns-in-0-to-929
returns-in-0-to-929 c = ruled (at_391 _ (omega arith) (omega arith)) (omega arith)

pub returns-in-0-to-930 : goal.returns-in-0-to-930
returns-in-0-to-930 c = ruled (at_3_a2 _ (omega arith) (omega arith)) (omega arith)

pub returns-in-0-to-939 : goal.returns-in-0-to-939
returns-in-0-to-939 c = ruled (at_3_a3 _ (omega arith) (omega arith)) (omega arith)

pub returns-in-0-to-974 : goal.returns-in-0-to-974
returns-in-0-to-974 c = ruled (at_3_ac _ (omega arith) (omega arith)) (omega arith)

pub returns-in-0-to-983 : goal.returns-in-0-to-983
returns-in-0-to-983 c = tabled (at_3_cf _ (omega arith) (omega arith))

pub returns-in-0-to-1007 : goal.returns-in-0-to-1007
returns-in-0-to-1007 c = ruled (at_3_d8 _ (omega arith) (omega arith)) (omega arith)

pub returns-in_default : goal.returns-in_default
returns-in_default c = tabled (at_3_f0 _ (omega arith) (omega arith))
