-- `city::hash_len1to3` computes `len1to3`. Assumes nothing.
use Rattle.city.specs.City.{len1to3}
use Rattle.city.proofs.city.hash_len1to3.Goals as goal

pub returns : goal.returns
unfolding len1to3
returns c = cc
