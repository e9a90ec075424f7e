-- `packages::block::Block::imported_noted` meets its contract. Assumes nothing.
use Rattle.packages.specs.PackageLaws.{imported-holds}
use Rattle.packages.proofs.block.Block.imported_noted.Goals as goal

pub place-requires : goal.place-requires
place-requires c = rw c.requires.1 c.requires.2

pub returns : goal.returns
returns c =
    let s = c.args.self.now in
    let e = rw (c.requires.0, c.requires.1) at c.place.ensures in
    (e, rw e (imported-holds s.accepted s.fits c.args.i c.requires.2), c.imported_number.ensures)
