-- `city::State::next_x` computes `next_x`. Assumes nothing.
use Rattle.city.specs.City.{next_x}
use Rattle.city.proofs.city.State.next_x.Goals as goal

pub returns : goal.returns
unfolding next_x
returns c = cc
