-- `lower_old`: one law for each range. Assumes nothing.
use native.Mathlib.Omega.{arith}
use Rattle.rules.specs.QuickLaws.{ruled, tabled}
use Rattle.rules.specs.Runs.{at_10_a0, at_10_ce, at_13_a0, at_13_f6, at_1_c89, at_1_cc0}
use Rattle.rules.proofs.rules.lower_old.Goals as goal

pub returns-in-0-to-4301 : goal.returns-in-0-to-4301
returns-in-0-to-4301 c = tabled (at_10_a0 _ (omega arith) (omega arith))

pub returns-in-0-to-5023 : goal.returns-in-0-to-5023
returns-in-0-to-5023 c = ruled (at_10_ce _ (omega arith) (omega arith)) (omega arith)

pub returns-in-0-to-5109 : goal.returns-in-0-to-5109
returns-in-0-to-5109 c = tabled (at_13_a0 _ (omega arith) (omega arith))

pub returns-in-0-to-7304 : goal.returns-in-0-to-7304
returns-in-0-to-7304 c = ruled (at_13_f6 _ (omega arith) (omega arith)) (omega arith)

pub returns-in-0-to-7359 : goal.returns-in-0-to-7359
returns-in-0-to-7359 c = tabled (at_1_c89 _ (omega arith) (omega arith))

pub returns-in_default : goal.returns-in_default
returns-in_default c = ruled (at_1_cc0 _ (omega arith) (omega arith)) (omega arith)
