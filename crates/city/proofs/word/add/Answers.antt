-- `word::add` computes `addw`. Assumes nothing.
use Rattle.std.proofs.Common.{refl}
use Rattle.city.specs.Word.{addw}
use Rattle.city.proofs.word.add.Goals as goal

pub returns : goal.returns
unfolding addw
returns c = refl
