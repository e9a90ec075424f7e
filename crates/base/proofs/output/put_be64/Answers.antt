-- `output::put_be64` meets its contract: the bytes that the machine makes are those of the number. Assumes nothing.
use mathlib.Core.Path.{◌∙◌}
use Rattle.base.proofs.Machine.{high-first}
use Rattle.base.proofs.output.put_be64.Goals as goal

pub returns : goal.returns
returns c = rw (c.to_be_bytes.ensures ∙ high-first 8 c.args.n) at c.put_bytes.ensures
