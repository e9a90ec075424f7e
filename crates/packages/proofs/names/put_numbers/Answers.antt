-- `packages::names::put_numbers` meets its contract: one, then the other. Assumes nothing.
use Rattle.base.specs.OutputLaws.{wrote-rest}
use Rattle.packages.proofs.names.put_numbers.Goals as goal

pub returns : goal.returns
returns c = search wrote-rest
