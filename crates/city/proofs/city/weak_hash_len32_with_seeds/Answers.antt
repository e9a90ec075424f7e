-- `city::weak_hash_len32_with_seeds` computes `weak32`. Assumes nothing.
use Rattle.city.specs.City.{weak32}
use Rattle.city.proofs.city.weak_hash_len32_with_seeds.Goals as goal

pub returns : goal.returns
unfolding weak32
returns c = cc
