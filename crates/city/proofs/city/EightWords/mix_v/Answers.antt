-- `city::EightWords::mix_v` computes `mix_v`. Assumes nothing.
use Rattle.city.specs.City.{mix_v}
use Rattle.city.proofs.city.EightWords.mix_v.Goals as goal

pub returns : goal.returns
unfolding mix_v
returns c = cc
