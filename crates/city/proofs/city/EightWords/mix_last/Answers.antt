-- `city::EightWords::mix_last` computes `mix_last`. Assumes nothing.
use Rattle.city.specs.City.{mix_last}
use Rattle.city.proofs.city.EightWords.mix_last.Goals as goal

pub returns : goal.returns
unfolding mix_last
returns c = cc
