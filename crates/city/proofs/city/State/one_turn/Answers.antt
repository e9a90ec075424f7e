-- `city::State::one_turn` computes `turn`. Assumes nothing.
use Rattle.city.specs.City.{turn}
use Rattle.city.proofs.city.State.one_turn.Goals as goal

pub returns : goal.returns
unfolding turn
returns c = cc
