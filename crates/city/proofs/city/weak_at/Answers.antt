-- `city::weak_at` computes `weak_at`. Assumes nothing.
use Rattle.city.specs.City.{weak_at}
use Rattle.city.proofs.city.weak_at.Goals as goal

pub returns : goal.returns
unfolding weak_at
returns c = cc
