-- `text::name::put_beyond` meets its contract: what `put_threes` begins `put_scalars` goes on with. Assumes nothing.
use Rattle.text.proofs.ThreesLoop.{begun_passed}
use Rattle.text.proofs.name.put_beyond.Goals as goal

pub returns : goal.returns
returns c = begun_passed c.put_threes-r.ensures c.put_scalars-s.ensures
