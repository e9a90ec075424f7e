-- `rows::put_words` meets its contract: three stores. Assumes nothing.
use Rattle.resolve.specs.Rows.{worded}
use Rattle.resolve.proofs.rows.put_words.Goals as goal

pub returns : goal.returns
unfolding worded
returns c = cc
