-- `city::EightWords::mix_eight` computes `mix8`. Assumes nothing.
use Rattle.city.specs.City.{mix8}
use Rattle.city.proofs.city.EightWords.mix_eight.Goals as goal

pub returns : goal.returns
unfolding mix8
returns c = cc
