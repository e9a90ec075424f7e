-- `answer::refuse` meets its contract: fields with no bit in common add up. Assumes nothing.
use Rattle.base.proofs.Joined.{or_refusal}
use Rattle.base.proofs.answer.refuse.Goals as goal

pub returns : goal.returns
returns c = rw (c.from.ensures, c.from-2.ensures) (or_refusal c.args.question c.args.block c.ranges.question.fits c.ranges.block.fits)
