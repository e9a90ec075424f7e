-- `packages::block::Block::name_noted` meets its contract. Assumes nothing.
use Rattle.packages.specs.PackageLaws.{name-holds}
use Rattle.packages.proofs.block.Block.name_noted.Goals as goal

pub place-requires : goal.place-requires
place-requires c = rw c.requires.1 c.requires.2

pub returns : goal.returns
returns c =
    let s = c.args.self.now in
    let e = rw (c.requires.0, c.requires.1) at c.place.ensures in
    (e, rw e (name-holds s.accepted s.fits c.args.i c.requires.2))
