-- `packages::block::Block::home_noted` meets its contract. Assumes nothing.
use native.Mathlib.Omega.{arith}
use Rattle.packages.specs.PackageLaws.{home-room, home-index, home-number, home-named}
use Rattle.packages.proofs.block.Block.home_noted.Goals as goal

pub u30_le-requires : goal.u30_le-requires
u30_le-requires c = omega (arith, home-room c.args.self.now.accepted)

pub place-requires : goal.place-requires
place-requires c =
    let s = c.args.self.now in
    rw (c.requires.1, c.u30_le.ensures.0, home-index s.accepted) (home-named s.accepted)

pub le32-requires : goal.le32-requires
le32-requires c = omega (arith, home-room c.args.self.now.accepted)

pub returns : goal.returns
returns c =
    let s = c.args.self.now in
    let a = s.accepted in
    rw (c.place.ensures, c.requires.0, c.requires.1, c.u30_le.ensures.0, home-index a, c.le32.ensures, home-number a)
