-- `packages::block::Block::home_from` meets its contract. Assumes nothing.
use native.Mathlib.Omega.{arith}
use Rattle.packages.specs.PackageLaws.{home-room, home-index, home-number, home-named}
use Rattle.packages.proofs.block.Block.home_from.Goals as goal

pub u30_le-requires : goal.u30_le-requires
u30_le-requires c = omega (arith, home-room c.args.self.now.accepted)

pub place_from-place-requires : goal.place_from-place-requires
place_from-place-requires c =
    let a = c.args.self.now.accepted in
    rw (c.u30_le.ensures.0, home-index a) (home-named a, c.requires)

pub le32-requires : goal.le32-requires
le32-requires c = omega (arith, home-room c.args.self.now.accepted)

pub returns : goal.returns
returns c =
    let a = c.args.self.now.accepted in
    rw (c.place_from-place.ensures, c.u30_le.ensures.0, home-index a, c.le32.ensures, home-number a)
