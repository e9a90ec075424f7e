-- `packages::names::put_number` meets its contract: the text, then the number. Assumes nothing.
use Rattle.base.specs.OutputLaws.{wrote-rest}
use Rattle.packages.proofs.names.put_number.Goals as goal

pub returns : goal.returns
returns c = search wrote-rest
