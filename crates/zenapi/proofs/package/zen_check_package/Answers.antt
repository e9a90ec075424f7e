-- `zenapi::package::zen_check_package` meets its contract.
use Rattle.zenapi.proofs.PackageFound.{refused-as}
use Rattle.zenapi.proofs.package.zen_check_package.Goals as goal

pub returns : goal.returns
returns c = refused-as _ _ _ c.check_package.ensures c.refused.ensures
