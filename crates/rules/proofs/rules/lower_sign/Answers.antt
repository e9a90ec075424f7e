-- `lower_sign`: one law for each range. Assumes nothing.
use native.Mathlib.Omega.{arith}
use Rattle.rules.specs.QuickLaws.{ruled, tabled}
use Rattle.rules.specs.Runs.{at_1_f00, at_2000, at_2126, at_2184, at_24_b6, at_24_d0, at_2_c00}
use Rattle.rules.proofs.rules.lower_sign.Goals as goal

pub returns-in-0-to-8191 : goal.returns-in-0-to-8191
returns-in-0-to-8191 c = tabled (at_1_f00 _ (omega arith) (omega arith))

pub returns-in-0-to-8485 : goal.returns-in-0-to-8485
returns-in-0-to-8485 c = ruled (at_2000 _ (omega arith) (omega arith)) (omega arith)

pub returns-in-0-to-8579 : goal.returns-in-0-to-8579
returns-in-0-to-8579 c = tabled (at_2126 _ (omega arith) (omega arith))

pub returns-in-0-to-9397 : goal.returns-in-0-to-9397
returns-in-0-to-9397 c = ruled (at_2184 _ (omega arith) (omega arith)) (omega arith)

pub returns-in-0-to-9423 : goal.returns-in-0-to-9423
returns-in-0-to-9423 c = tabled (at_24_b6 _ (omega arith) (omega arith))

pub returns-in-0-to-11263 : goal.returns-in-0-to-11263
returns-in-0-to-11263 c = ruled (at_24_d0 _ (omega arith) (omega arith)) (omega arith)

pub returns-in_default : goal.returns-in_default
returns-in_default c = tabled (at_2_c00 _ (omega arith) (omega arith))
