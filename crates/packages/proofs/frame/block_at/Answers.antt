-- `packages::frame::block_at` meets its contract. Assumes nothing.
use borrow.Author.Rules.{rules}
use Rattle.packages.specs.Framing.{next_at}
use Rattle.packages.proofs.frame.block_at.Goals as goal

pub overflow_add-end : goal.overflow_add-end
unfolding next_at
overflow_add-end c = search rules

pub slice_bounds-result-end : goal.slice_bounds-result-end
unfolding next_at
slice_bounds-result-end c = search rules
