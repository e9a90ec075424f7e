-- `plain::is_pair` meets its contract: twice eight bytes. Assumes nothing.
use Rattle.text.specs.PlainLaws.{ascii-pair}
use Rattle.text.proofs.plain.is_pair.Goals as goal

pub returns : goal.returns
returns c = rw ascii-pair (cc)
