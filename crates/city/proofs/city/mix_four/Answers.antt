-- `city::mix_four` computes `mix4`. Assumes nothing.
use Rattle.city.specs.City.{mix4}
use Rattle.city.proofs.city.mix_four.Goals as goal

pub returns : goal.returns
unfolding mix4
returns c = cc
