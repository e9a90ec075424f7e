-- `city::hash_len33to64` computes `len33to64`. Assumes nothing.
use Rattle.city.specs.City.{len33to64}
use Rattle.city.proofs.city.hash_len33to64.Goals as goal

pub returns : goal.returns
unfolding len33to64
returns c = cc
