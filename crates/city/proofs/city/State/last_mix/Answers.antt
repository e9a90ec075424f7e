-- `city::State::last_mix` computes `finish`. Assumes nothing.
use Rattle.city.specs.City.{finish}
use Rattle.city.proofs.city.State.last_mix.Goals as goal

pub returns : goal.returns
unfolding finish
returns c = cc
