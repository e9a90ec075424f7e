-- `output::put_counts` meets its contract: two counts behind two. Assumes nothing.
use native.Mathlib.Omega.{arith}
use Rattle.verify.proofs.Behind.{next}
use Rattle.verify.proofs.output.put_counts.Goals as goal

pub returns : goal.returns
returns c =
    next c.put_two.ensures c.put_two-2.ensures (omega arith)
