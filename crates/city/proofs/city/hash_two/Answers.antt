-- `city::hash_two` computes `hash_two`. Assumes nothing.
use Rattle.city.specs.City.{hash_two}
use Rattle.city.proofs.city.hash_two.Goals as goal

pub returns : goal.returns
unfolding hash_two
returns c = cc
