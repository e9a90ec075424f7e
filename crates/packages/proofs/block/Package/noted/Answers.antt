-- `packages::block::Package::noted` meets its contract: the names of an accepted package are held. Assumes nothing.
use Rattle.packages.specs.PackageLaws.{names-held, imported-held}
use Rattle.packages.proofs.block.Package.noted.Goals as goal

pub of-requires : goal.of-requires
of-requires c = names-held c.args.block.accepted c.args.block.fits

pub of-requires-2 : goal.of-requires-2
of-requires-2 c = imported-held c.args.block.accepted c.args.block.fits
