-- `little::put_le32` meets its contract: the library's bytes of the number. Assumes nothing.
use mathlib.Core.Path.{◌∙◌}
use Rattle.base.specs.OutputLaws.{wrote_as}
use Rattle.header.specs.PiecesLaws.{le-bytes_4}
use Rattle.header.proofs.little.put_le32.Goals as goal

pub returns : goal.returns
returns c = wrote_as c.put_bytes.ensures (c.to_le_bytes.ensures ∙ le-bytes_4 c.args.n)
