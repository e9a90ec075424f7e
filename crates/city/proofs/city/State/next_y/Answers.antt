-- `city::State::next_y` computes `next_y`. Assumes nothing.
use Rattle.city.specs.City.{next_y}
use Rattle.city.proofs.city.State.next_y.Goals as goal

pub returns : goal.returns
unfolding next_y
returns c = cc
