-- `layout_in` meets its contract.
use Rattle.zen.specs.Layouts.{layout_at}
use Rattle.zen.proofs.layout.layout_in.Goals as goal

pub batch_in-imported-requires : goal.batch_in-imported-requires
batch_in-imported-requires c = rw c.summary_in-m.ensures c.requires.imported

pub returns : goal.returns
unfolding layout_at
returns c = rw (c.batch_in.ensures, c.batch_in-imported.ensures, c.summary_in-m.ensures)
