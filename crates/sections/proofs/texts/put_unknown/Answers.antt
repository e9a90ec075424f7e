-- `texts::put_unknown` meets its contract: the length, and the text's one byte behind it. Assumes nothing.
use Rattle.sections.specs.WrittenLaws.{unknown-put}
use Rattle.sections.proofs.texts.put_unknown.Goals as goal

pub returns : goal.returns
returns c = unknown-put c.put_be32.ensures c.requires
