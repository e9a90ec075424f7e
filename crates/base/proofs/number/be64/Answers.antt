-- `number::be64` meets its contract: what the machine reads is the number. Assumes nothing.
use mathlib.Core.Path.{◌∙◌}
use Rattle.base.proofs.Machine.{be-part}
use Rattle.base.proofs.number.be64.Goals as goal

pub returns : goal.returns
returns c = c.from_be_bytes.ensures ∙ be-part 7 c.args.s.now c.args.at c.requires (rw c.unwrap.ensures at c.try_into.ensures.1)
