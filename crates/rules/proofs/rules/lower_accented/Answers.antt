-- `lower_accented`: one law for each range. Assumes nothing.
use native.Mathlib.Omega.{arith}
use Rattle.rules.specs.QuickLaws.{ruled, tabled}
use Rattle.rules.specs.Runs.{at_370, at_386, at_387, at_388, at_38_b, at_38_c, at_38_d, at_38_e, at_390}
use Rattle.rules.proofs.rules.lower_accented.Goals as goal

pub returns-in-0-to-901 : goal.returns-in-0-to-901
returns-in-0-to-901 c = tabled (at_370 _ (omega arith) (omega arith))

pub returns-in-0-to-902 : goal.returns-in-0-to-902
returns-in-0-to-902 c = ruled (at_386 _ (omega arith) (omega arith)) (omega arith)

pub returns-in-0-to-903 : goal.returns-in-0-to-903
returns-in-0-to-903 c = ruled (at_387 _ (omega arith) (omega arith)) (omega arith)

pub returns-in-0-to-906 : goal.returns-in-0-to-906
returns-in-0-to-906 c = ruled (at_388 _ (omega arith) (omega arith)) (omega arith)

pub returns-in-0-to-907 : goal.returns-in-0-to-907
returns-in-0-to-907 c = ruled (at_38_b _ (omega arith) (omega arith)) (omega arith)

pub returns-in-0-to-908 : goal.returns-in-0-to-908
returns-in-0-to-908 c = ruled (at_38_c _ (omega arith) (omega arith)) (omega arith)

pub returns-in-0-to-909 : goal.returns-in-0-to-909
returns-in-0-to-909 c = ruled (at_38_d _ (omega arith) (omega arith)) (omega arith)

pub returns-in-0-to-911 : goal.returns-in-0-to-911
returns-in-0-to-911 c = ruled (at_38_e _ (omega arith) (omega arith)) (omega arith)

pub returns-in_default : goal.returns-in_default
returns-in_default c = ruled (at_390 _ (omega arith) (omega arith)) (omega arith)
