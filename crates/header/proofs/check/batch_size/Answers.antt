-- `check::batch_size` meets its contract. Assumes nothing.
use borrow.Author.Tests.{eq-eqb, ne_eqb}
use Rattle.header.specs.Parts.{batch_of}
use Rattle.header.proofs.check.batch_size.Goals as goal

pub returns-then-count-eq0 : goal.returns-then-count-eq0
unfolding batch_of
returns-then-count-eq0 c = rw (eq-eqb _ _ c.if-count-eq0.true)

pub returns : goal.returns
unfolding batch_of
returns c = rw (ne_eqb _ _ c.if-count-eq0.false)
