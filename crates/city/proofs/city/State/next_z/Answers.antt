-- `city::State::next_z` computes `next_z`. Assumes nothing.
use Rattle.city.specs.City.{next_z}
use Rattle.city.proofs.city.State.next_z.Goals as goal

pub returns : goal.returns
unfolding next_z
returns c = cc
