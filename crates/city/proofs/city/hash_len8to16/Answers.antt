-- `city::hash_len8to16` computes `len8to16`. Assumes nothing.
use Rattle.city.specs.City.{len8to16}
use Rattle.city.proofs.city.hash_len8to16.Goals as goal

pub returns : goal.returns
unfolding len8to16
returns c = cc
