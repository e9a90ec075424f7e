-- `package_name_place` meets its contract: question 10 was asked of the package.
use Rattle.zen.proofs.Accepted.{parts}
use Rattle.zen.proofs.access.PackageNames.package_name_place.Goals as goal

pub place-requires : goal.place-requires
place-requires c = let p = c.args.self.now.owner in rw c.requires (parts _ _ p.accepted).index

pub returns : goal.returns
returns c = rw c.requires at c.place.ensures
