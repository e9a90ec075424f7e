-- `packages::names::put_behind` meets its contract: the text, then the name. Assumes nothing.
use Rattle.base.specs.OutputLaws.{wrote-rest}
use Rattle.packages.proofs.names.put_behind.Goals as goal

pub returns : goal.returns
returns c = search wrote-rest
