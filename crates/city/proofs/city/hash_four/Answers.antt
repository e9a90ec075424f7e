-- `city::hash_four` computes `hash_four`. Assumes nothing.
use Rattle.city.specs.City.{hash_four}
use Rattle.city.proofs.city.hash_four.Goals as goal

pub returns : goal.returns
unfolding hash_four
returns c = cc
