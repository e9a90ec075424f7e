-- `word::mul` computes `mulw`. Assumes nothing.
use Rattle.std.proofs.Common.{refl}
use Rattle.city.specs.Word.{mulw}
use Rattle.city.proofs.word.mul.Goals as goal

pub returns : goal.returns
unfolding mulw
returns c = refl
