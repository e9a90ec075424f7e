-- `city::shift_mix` computes `shift_mix`. Assumes nothing.
use Rattle.std.proofs.Common.{refl}
use Rattle.city.specs.City.{shift_mix}
use Rattle.city.proofs.city.shift_mix.Goals as goal

pub returns : goal.returns
unfolding shift_mix
returns c = refl
