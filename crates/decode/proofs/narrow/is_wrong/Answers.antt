-- `decode::narrow::is_wrong` meets its contract. Assumes nothing.
use mathlib.Core.Bool.{xor}
use Rattle.decode.specs.Narrow.{wrong}
use Rattle.decode.proofs.narrow.is_wrong.Goals as goal

pub returns : goal.returns
unfolding wrong xor
returns c = rw (c.within.ensures, c.within-2.ensures)
