-- `city::hash_len16_mul` computes `hash_len16_mul`. Assumes nothing.
use Rattle.city.specs.City.{hash_len16_mul}
use Rattle.city.proofs.city.hash_len16_mul.Goals as goal

pub returns : goal.returns
unfolding hash_len16_mul
returns c = cc
