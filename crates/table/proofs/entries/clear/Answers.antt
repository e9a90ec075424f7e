-- `entries::clear` meets its contract. Assumes nothing.
use lib.Seq.{length-take-le}
use Rattle.table.specs.Table.{cleared}
use Rattle.table.proofs.entries.clear.Goals as goal

pub returns : goal.returns
unfolding cleared
returns c = rw (c.fill.ensures.after (λ y e. e), length-take-le _ c.args.w.now c.requires)
