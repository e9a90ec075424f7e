-- `city::hash_len4to7` computes `len4to7`. Assumes nothing.
use Rattle.city.specs.City.{len4to7}
use Rattle.city.proofs.city.hash_len4to7.Goals as goal

pub returns : goal.returns
unfolding len4to7
returns c = cc
