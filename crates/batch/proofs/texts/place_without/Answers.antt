-- `place_without` meets its contract, by the size of a unit.
use Rattle.batch.specs.Holds.{place_without}
use Rattle.batch.proofs.texts.place_without.Goals as goal

pub returns : goal.returns
unfolding place_without
returns c = rw c.unit_size.ensures
