-- `counts::Tally::with_object` meets its contract. Assumes nothing.
use Rattle.verify.specs.Tallies.{tallied}
use Rattle.verify.proofs.Bit.{bit-is}
use Rattle.verify.proofs.counts.Tally.with_object.Goals as goal

pub returns-in_default : goal.returns-in_default
unfolding tallied
returns-in_default c = rw c.in_default.is

pub returns : goal.returns
unfolding tallied
returns c = rw (c.in-Some.is, c.from.ensures, c.index_value-low.ensures, c.index_value-wanted.ensures, bit-is)
