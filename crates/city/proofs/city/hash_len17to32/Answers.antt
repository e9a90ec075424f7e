-- `city::hash_len17to32` computes `len17to32`. Assumes nothing.
use Rattle.city.specs.City.{len17to32}
use Rattle.city.proofs.city.hash_len17to32.Goals as goal

pub returns : goal.returns
unfolding len17to32
returns c = cc
