-- `lower_late`: one law for each range. Assumes nothing.
use native.Mathlib.Omega.{arith}
use Rattle.rules.specs.QuickLaws.{ruled, tabled}
use Rattle.rules.specs.Runs.{at_180, at_1_a0, at_1_a6, at_1_af, at_1_b1, at_1_cd, at_1_dd, at_1_f0, at_1_f8, at_220, at_222, at_234, at_23_a, at_246}
use Rattle.rules.proofs.rules.lower_late.Goals as goal

pub returns-in-0-to-415 : goal.returns-in-0-to-415
returns-in-0-to-415 c = tabled (at_180 _ (omega arith) (omega arith))

pub returns-in-0-to-421 : goal.returns-in-0-to-421
returns-in-0-to-421 c = ruled (at_1_a0 _ (omega arith) (omega arith)) (omega arith)

pub returns-in-0-to-430 : goal.returns-in-0-to-430
returns-in-0-to-430 c = tabled (at_1_a6 _ (omega arith) (omega arith))

pub returns-in-0-to-432 : goal.returns-in-0-to-432
returns-in-0-to-432 c = ruled (at_1_af _ (omega arith) (omega arith)) (omega arith)

pub returns-in-0-to-460 : goal.returns-in-0-to-460
returns-in-0-to-460 c = tabled (at_1_b1 _ (omega arith) (omega arith))

pub returns-in-0-to-476 : goal.returns-in-0-to-476
returns-in-0-to-476 c = ruled (at_1_cd _ (omega arith) (omega arith)) (omega arith)

pub returns-in-0-to-495 : goal.returns-in-0-to-495
returns-in-0-to-495 c = ruled (at_1_dd _ (omega arith) (omega arith)) (omega arith)

pub returns-in-0-to-503 : goal.returns-in-0-to-503
returns-in-0-to-503 c = tabled (at_1_f0 _ (omega arith) (omega arith))

pub returns-in-0-to-543 : goal.returns-in-0-to-543
returns-in-0-to-543 c = ruled (at_1_f8 _ (omega arith) (omega arith)) (omega arith)

pub returns-in-0-to-545 : goal.returns-in-0-to-545
returns-in-0-to-545 c = tabled (at_220 _ (omega arith) (omega arith))

pub returns-in-0-to-563 : goal.returns-in-0-to-563
returns-in-0-to-563 c = ruled (at_222 _ (omega arith) (omega arith)) (omega arith)

pub returns-in-0-to-569 : goal.returns-in-0-to-569
returns-in-0-to-569 c = ruled (at_234 _ (omega arith) (omega arith)) (omega arith)

pub returns-in-0-to-581 : goal.returns-in-0-to-581
returns-in-0-to-581 c = tabled (at_23_a _ (omega arith) (omega arith))

pub returns-in_default : goal.returns-in_default
returns-in_default c = ruled (at_246 _ (omega arith) (omega arith)) (omega arith)
