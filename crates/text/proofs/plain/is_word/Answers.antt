-- `plain::is_word` meets its contract. Assumes nothing.
use Rattle.text.specs.PlainLaws.{word-ascii}
use Rattle.text.proofs.plain.is_word.Goals as goal

pub returns : goal.returns
returns c =
    rw c.le64.ensures (word-ascii 8 c.args.part.now c.args.i (λ i. (c.type_inv.part i).fits) c.requires)
