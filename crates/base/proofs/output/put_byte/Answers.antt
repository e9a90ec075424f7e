-- `output::put_byte` meets its contract. Assumes nothing.
use Rattle.base.specs.OutputLaws.{wrote_none, wrote-byte}
use Rattle.base.proofs.output.put_byte.Goals as goal

pub returns : goal.returns
returns c = wrote-byte (wrote_none _) c.requires c.args.b
