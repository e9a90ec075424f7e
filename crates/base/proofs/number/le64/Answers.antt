-- `number::le64` meets its contract: what the machine reads is the number. Assumes nothing.
use mathlib.Core.Path.{◌∙◌}
use Rattle.base.proofs.Machine.{le-part}
use Rattle.base.proofs.number.le64.Goals as goal

pub returns : goal.returns
returns c = c.from_le_bytes.ensures ∙ le-part 7 c.args.s.now c.args.at c.requires (rw c.unwrap.ensures at c.try_into.ensures.1)
