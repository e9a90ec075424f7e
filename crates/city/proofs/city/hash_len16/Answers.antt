-- `city::hash_len16` computes `hash_len16`. Assumes nothing.
use Rattle.city.specs.City.{hash_len16}
use Rattle.city.proofs.city.hash_len16.Goals as goal

pub returns : goal.returns
unfolding hash_len16
returns c = cc
