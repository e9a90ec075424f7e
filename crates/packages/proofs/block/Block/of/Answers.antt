-- `packages::block::Block::of` meets its contract: what was read of the block is in it. Assumes nothing.
use Rattle.packages.specs.Package.{read_in}
use Rattle.packages.specs.PackageLaws.{accepted-by, package_in_lem}
use Rattle.packages.proofs.block.Block.of.Goals as goal

pub layout_of-requires : goal.layout_of-requires
layout_of-requires c = let b = c.args.bytes.now in ((read_in b).layout, accepted-by b (read_in b) c.requires)

pub invariant_of-result : goal.invariant_of-result
invariant_of-result c =
    let b = c.args.bytes.now in
    record { accepted = package_in_lem b c.layout_of.result c.parts_of.result c.layout_of.ensures c.parts_of.ensures; fits = λ i. (c.type_inv.bytes i).fits }
