-- `city::State::next_v` computes `next_v`. Assumes nothing.
use Rattle.city.specs.City.{next_v}
use Rattle.city.proofs.city.State.next_v.Goals as goal

pub returns : goal.returns
unfolding next_v
returns c = cc
