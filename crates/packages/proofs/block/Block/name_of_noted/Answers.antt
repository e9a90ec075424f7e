-- `packages::block::Block::name_of_noted` meets its contract. Assumes nothing.
use Rattle.packages.proofs.block.Block.name_of_noted.Goals as goal

pub returns : goal.returns
returns c = (rw c.name_noted.ensures.0, c.name_noted.ensures.1)
