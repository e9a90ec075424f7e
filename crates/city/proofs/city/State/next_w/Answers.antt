-- `city::State::next_w` computes `next_w`. Assumes nothing.
use Rattle.city.specs.City.{next_w}
use Rattle.city.proofs.city.State.next_w.Goals as goal

pub returns : goal.returns
unfolding next_w
returns c = cc
