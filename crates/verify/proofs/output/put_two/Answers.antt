-- `output::put_two` meets its contract: one count behind another. Assumes nothing.
use native.Mathlib.Omega.{arith}
use Rattle.verify.proofs.Behind.{next, four}
use Rattle.verify.proofs.output.put_two.Goals as goal

pub returns : goal.returns
returns c =
    next (four _ c.put_be32.ensures) (four _ c.put_be32-2.ensures) (omega arith)
