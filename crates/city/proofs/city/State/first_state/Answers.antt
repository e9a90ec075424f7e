-- `city::State::first_state` computes `start`. Assumes nothing.
use Rattle.city.specs.City.{start}
use Rattle.city.proofs.city.State.first_state.Goals as goal

pub returns : goal.returns
unfolding start
returns c = cc
