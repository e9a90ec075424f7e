-- `lower_far`: one law for each range. Assumes nothing.
use mathlib.Core.Path.{sym}
use native.Mathlib.Omega.{arith}
use Rattle.rules.specs.Runs.{at_10_c80, at_10_cb3, at_10_d50, at_10_d66, at_118_a0, at_118_c0, at_16_e40, at_16_e60, at_16_ea0, at_16_eb9, at_1_e900}
use Rattle.rules.proofs.rules.lower_far.Goals as goal

pub returns-in-0-to-68786 : goal.returns-in-0-to-68786
returns-in-0-to-68786 c = sym (at_10_c80 _ (omega arith) (omega arith))

pub returns-in-0-to-68943 : goal.returns-in-0-to-68943
returns-in-0-to-68943 c = sym (at_10_cb3 _ (omega arith) (omega arith))

pub returns-in-0-to-68965 : goal.returns-in-0-to-68965
returns-in-0-to-68965 c = sym (at_10_d50 _ (omega arith) (omega arith))

pub returns-in-0-to-71839 : goal.returns-in-0-to-71839
returns-in-0-to-71839 c = sym (at_10_d66 _ (omega arith) (omega arith))

pub returns-in-0-to-71871 : goal.returns-in-0-to-71871
returns-in-0-to-71871 c = sym (at_118_a0 _ (omega arith) (omega arith))

pub returns-in-0-to-93759 : goal.returns-in-0-to-93759
returns-in-0-to-93759 c = sym (at_118_c0 _ (omega arith) (omega arith))

pub returns-in-0-to-93791 : goal.returns-in-0-to-93791
returns-in-0-to-93791 c = sym (at_16_e40 _ (omega arith) (omega arith))

pub returns-in-0-to-93855 : goal.returns-in-0-to-93855
returns-in-0-to-93855 c = sym (at_16_e60 _ (omega arith) (omega arith))

pub returns-in-0-to-93880 : goal.returns-in-0-to-93880
returns-in-0-to-93880 c = sym (at_16_ea0 _ (omega arith) (omega arith))

pub returns-in-0-to-125183 : goal.returns-in-0-to-125183
returns-in-0-to-125183 c = sym (at_16_eb9 _ (omega arith) (omega arith))

pub returns-in_default : goal.returns-in_default
returns-in_default c = sym (at_1_e900 _ (omega arith) (omega arith))
