-- `entries::attach` meets its contract: five stores. Assumes nothing.
use Rattle.table.specs.Table.{filled, attached}
use Rattle.table.proofs.entries.attach.Goals as goal

pub returns : goal.returns
unfolding attached filled
returns c = cc
