-- `city::mul_of` computes `mul_of`. Assumes nothing.
use Rattle.city.specs.City.{mul_of, k2}
use Rattle.city.proofs.Wraps.{add-product}
use Rattle.city.proofs.city.mul_of.Goals as goal

pub returns : goal.returns
unfolding mul_of
returns c = cc (add-product k2 c.args.n 2)
