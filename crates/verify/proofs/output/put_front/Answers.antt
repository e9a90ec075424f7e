-- `output::put_front` meets its contract: one thing behind another. Assumes nothing.
use native.Mathlib.Omega.{arith}
use Rattle.verify.proofs.Behind.{next, four}
use Rattle.verify.proofs.output.put_front.Goals as goal

pub returns : goal.returns
returns c =
    let front = next {k = 5} (four _ c.put_be32.ensures) c.put_byte.ensures (omega (arith, c.put_byte.ensures.size)) in
    next (next {k = 21} front c.put_counts.ensures (omega arith)) (four _ c.put_be32-2.ensures) (omega arith)
