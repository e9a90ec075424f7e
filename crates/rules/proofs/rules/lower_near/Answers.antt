-- `lower_near`: one law for each range. Assumes nothing.
use mathlib.Core.Path.{sym}
use native.Mathlib.Omega.{arith}
use Rattle.rules.specs.Runs.{at_10400, at_10428, at_104_b0, at_104_d4, at_10570, at_1057_b, at_1057_c, at_1058_b, at_1058_c, at_10593, at_10594, at_10596}
use Rattle.rules.proofs.rules.lower_near.Goals as goal

pub returns-in-0-to-66599 : goal.returns-in-0-to-66599
returns-in-0-to-66599 c = sym (at_10400 _ (omega arith) (omega arith))

pub returns-in-0-to-66735 : goal.returns-in-0-to-66735
returns-in-0-to-66735 c = sym (at_10428 _ (omega arith) (omega arith))

pub returns-in-0-to-66771 : goal.returns-in-0-to-66771
returns-in-0-to-66771 c = sym (at_104_b0 _ (omega arith) (omega arith))

pub returns-in-0-to-66927 : goal.returns-in-0-to-66927
returns-in-0-to-66927 c = sym (at_104_d4 _ (omega arith) (omega arith))

pub returns-in-0-to-66938 : goal.returns-in-0-to-66938
returns-in-0-to-66938 c = sym (at_10570 _ (omega arith) (omega arith))

pub returns-in-0-to-66939 : goal.returns-in-0-to-66939
returns-in-0-to-66939 c = sym (at_1057_b _ (omega arith) (omega arith))

pub returns-in-0-to-66954 : goal.returns-in-0-to-66954
returns-in-0-to-66954 c = sym (at_1057_c _ (omega arith) (omega arith))

pub returns-in-0-to-66955 : goal.returns-in-0-to-66955
returns-in-0-to-66955 c = sym (at_1058_b _ (omega arith) (omega arith))

pub returns-in-0-to-66962 : goal.returns-in-0-to-66962
returns-in-0-to-66962 c = sym (at_1058_c _ (omega arith) (omega arith))

pub returns-in-0-to-66963 : goal.returns-in-0-to-66963
returns-in-0-to-66963 c = sym (at_10593 _ (omega arith) (omega arith))

pub returns-in-0-to-66965 : goal.returns-in-0-to-66965
returns-in-0-to-66965 c = sym (at_10594 _ (omega arith) (omega arith))

pub returns-in_default : goal.returns-in_default
returns-in_default c = sym (at_10596 _ (omega arith) (omega arith))
