-- `search::bucket_of` meets its contract. Assumes nothing.
use mathlib.Core.Path.{refl}
use Rattle.city.specs.Word.{mulw}
use Rattle.table.specs.Tree.{bucket}
use Rattle.table.proofs.search.bucket_of.Goals as goal

pub returns : goal.returns
unfolding bucket mulw
returns c = refl
