-- `plain::is_half` meets its contract. Assumes nothing.
use Rattle.text.specs.PlainLaws.{word-ascii}
use Rattle.text.proofs.plain.is_half.Goals as goal

pub returns : goal.returns
returns c =
    rw c.le32.ensures (word-ascii 4 c.args.part.now c.args.i (λ i. (c.type_inv.part i).fits) c.requires)
