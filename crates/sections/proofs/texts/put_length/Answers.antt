-- `texts::put_length` meets its contract: of a number beyond four bytes the low bytes are written. Assumes nothing.
use Rattle.base.specs.OutputLaws.{wrote_as}
use Rattle.sections.specs.WrittenLaws.{length-bytes}
use Rattle.sections.proofs.texts.put_length.Goals as goal

pub returns : goal.returns
returns c = wrote_as c.put_be32.ensures (length-bytes c.args.n)
