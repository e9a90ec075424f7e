-- `enter::put_object` meets its contract: the place holds a name. Assumes nothing.
use Rattle.batch.specs.Holds.{holds-name, holds-own}
use Rattle.batch.specs.PlacesLaws.{place-size}
use Rattle.objects.proofs.enter.put_object.Goals as goal

pub place_len-requires : goal.place_len-requires
place_len-requires c =
    let n = c.args.names.now in
    rw c.place.ensures (holds-own (holds-name n.block.now n.names n.fits n.held c.args.e.index c.requires.0))

pub describe-requires : goal.describe-requires
describe-requires c =
    let n = c.args.names.now in
    (c.requires.1, rw c.place.ensures (place-size n.block.now n.names c.args.e.index c.requires.0 n.fits))
