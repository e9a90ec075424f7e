-- `rows::keep` meets its contract. Assumes nothing.
use Rattle.pool.specs.Pool.{noted}
use Rattle.pool.proofs.rows.keep.Goals as goal

pub returns : goal.returns
unfolding noted
returns c = rw (c.set32-2.ensures, c.set32.ensures, c.row_at-at.ensures)
