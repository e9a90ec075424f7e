-- `lower_pair`: by range. Assumes nothing.
use mathlib.Core.Path.{sym}
use native.Mathlib.Omega.{arith}
use Rattle.rules.specs.Runs.{at_10000, at_1_e922}
use Rattle.rules.proofs.rules.lower_pair.Goals as goal

pub returns-in-125218-to-4294967295 : goal.returns-in-125218-to-4294967295
returns-in-125218-to-4294967295 c = sym (at_1_e922 _ (omega arith) (omega arith))

pub returns-in-0-to-66559 : goal.returns-in-0-to-66559
returns-in-0-to-66559 c = sym (at_10000 _ (omega arith) (omega arith))
