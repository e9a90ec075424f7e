-- `lower_additional`: one law for each range. Assumes nothing.
use native.Mathlib.Omega.{arith}
use Rattle.rules.specs.QuickLaws.{ruled}
use Rattle.rules.specs.Runs.{at_1_e00, at_1_e96, at_1_e9_e, at_1_e9_f, at_1_ea0}
use Rattle.rules.proofs.rules.lower_additional.Goals as goal

pub returns-in-0-to-7829 : goal.returns-in-0-to-7829
returns-in-0-to-7829 c = ruled (at_1_e00 _ (omega arith) (omega arith)) (omega arith)

pub returns-in-0-to-7837 : goal.returns-in-0-to-7837
returns-in-0-to-7837 c = ruled (at_1_e96 _ (omega arith) (omega arith)) (omega arith)

pub returns-in-0-to-7838 : goal.returns-in-0-to-7838
returns-in-0-to-7838 c = ruled (at_1_e9_e _ (omega arith) (omega arith)) (omega arith)

pub returns-in-0-to-7839 : goal.returns-in-0-to-7839
returns-in-0-to-7839 c = ruled (at_1_e9_f _ (omega arith) (omega arith)) (omega arith)

pub returns-in_default : goal.returns-in_default
returns-in_default c = ruled (at_1_ea0 _ (omega arith) (omega arith)) (omega arith)
