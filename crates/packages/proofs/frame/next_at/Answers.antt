-- `packages::frame::next_at` meets its contract. Assumes nothing.
use borrow.Author.Rules.{rules}
use Rattle.packages.specs.Framing.{next_at}
use Rattle.packages.proofs.frame.next_at.Goals as goal

pub returns : goal.returns
unfolding next_at
returns c = cc

pub overflow_add-result-2 : goal.overflow_add-result-2
unfolding next_at
overflow_add-result-2 c = search rules
