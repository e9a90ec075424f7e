-- `packages::package::parts_of` meets its contract. Assumes nothing.
use Rattle.packages.specs.Package.{parts_at}
use Rattle.packages.proofs.package.parts_of.Goals as goal

pub returns : goal.returns
unfolding parts_at
returns c = cc
