-- `city::EightWords::mix_u` computes `mix_u`. Assumes nothing.
use Rattle.city.specs.City.{mix_u}
use Rattle.city.proofs.city.EightWords.mix_u.Goals as goal

pub returns : goal.returns
unfolding mix_u
returns c = cc
