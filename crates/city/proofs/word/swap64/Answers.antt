-- `word::swap64` puts the eight bytes in the other order. Assumes nothing.
use Rattle.std.proofs.Common.{◌∙◌}
use Rattle.city.proofs.Words.{swap_8}
use Rattle.city.proofs.word.swap64.Goals as goal

pub returns : goal.returns
returns c = c.swap_bytes.ensures ∙ swap_8 c.args.x
