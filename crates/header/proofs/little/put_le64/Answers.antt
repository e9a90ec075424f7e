-- `little::put_le64` meets its contract: the library's bytes of the number. Assumes nothing.
use mathlib.Core.Path.{◌∙◌}
use Rattle.base.specs.OutputLaws.{wrote_as}
use Rattle.header.specs.PiecesLaws.{le-bytes_8}
use Rattle.header.proofs.little.put_le64.Goals as goal

pub returns : goal.returns
returns c = wrote_as c.put_bytes.ensures (c.to_le_bytes.ensures ∙ le-bytes_8 c.args.n)
