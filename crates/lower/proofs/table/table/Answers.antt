-- `table`: the numbers in the code are those of the definition. Assumes nothing.
use mathlib.Core.Path.{refl}
use Rattle.lower.specs.Table.{pairs}
use Rattle.lower.proofs.table.table.Goals as goal

pub returns : goal.returns
unfolding pairs
returns c = refl
