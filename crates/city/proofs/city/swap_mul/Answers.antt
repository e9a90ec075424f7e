-- `city::swap_mul` computes `swap_mul`. Assumes nothing.
use Rattle.city.specs.City.{swap_mul}
use Rattle.city.proofs.city.swap_mul.Goals as goal

pub returns : goal.returns
unfolding swap_mul
returns c = cc
