-- `rows::keep` meets its contract: five stores. Assumes nothing.
use Rattle.resolve.specs.Resolving.{targeted}
use Rattle.resolve.proofs.rows.keep.Goals as goal

pub returns : goal.returns
unfolding targeted
returns c = cc
