-- `place` meets its contract, list by list.
use Rattle.zen.proofs.access.PackageNames.place.Goals as goal

pub place-requires : goal.place-requires
place-requires c = let p = c.args.self.now in rw p.listed c.requires

pub returns : goal.returns
returns c = let p = c.args.self.now in rw (p.header, p.listed) at c.place.ensures
