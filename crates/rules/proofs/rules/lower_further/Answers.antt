-- `lower_further`: one law for each range. Assumes nothing.
use native.Mathlib.Omega.{arith}
use Rattle.rules.specs.QuickLaws.{ruled}
use Rattle.rules.specs.Runs.{at_460, at_482, at_48_a, at_4_c0, at_4_c1, at_4_cf, at_530, at_531, at_557}
use Rattle.rules.proofs.rules.lower_further.Goals as goal

pub returns-in-0-to-1153 : goal.returns-in-0-to-1153
returns-in-0-to-1153 c = ruled (at_460 _ (omega arith) (omega arith)) (omega arith)

pub returns-in-0-to-1161 : goal.returns-in-0-to-1161
returns-in-0-to-1161 c = ruled (at_482 _ (omega arith) (omega arith)) (omega arith)

pub returns-in-0-to-1215 : goal.returns-in-0-to-1215
returns-in-0-to-1215 c = ruled (at_48_a _ (omega arith) (omega arith)) (omega arith)

pub returns-in-0-to-1216 : goal.returns-in-0-to-1216
returns-in-0-to-1216 c = ruled (at_4_c0 _ (omega arith) (omega arith)) (omega arith)

pub returns-in-0-to-1230 : goal.returns-in-0-to-1230
returns-in-0-to-1230 c = ruled (at_4_c1 _ (omega arith) (omega arith)) (omega arith)

pub returns-in-0-to-1327 : goal.returns-in-0-to-1327
returns-in-0-to-1327 c = ruled (at_4_cf _ (omega arith) (omega arith)) (omega arith)

pub returns-in-0-to-1328 : goal.returns-in-0-to-1328
returns-in-0-to-1328 c = ruled (at_530 _ (omega arith) (omega arith)) (omega arith)

pub returns-in-0-to-1366 : goal.returns-in-0-to-1366
returns-in-0-to-1366 c = ruled (at_531 _ (omega arith) (omega arith)) (omega arith)

pub returns-in_default : goal.returns-in_default
returns-in_default c = ruled (at_557 _ (omega arith) (omega arith)) (omega arith)
