-- `city::EightWords::mix_y` computes `mix_y`. Assumes nothing.
use Rattle.city.specs.City.{mix_y}
use Rattle.city.proofs.city.EightWords.mix_y.Goals as goal

pub returns : goal.returns
unfolding mix_y
returns c = cc
