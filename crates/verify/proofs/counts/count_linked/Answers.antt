-- `counts::count_linked` meets its contract: there are links for each object. Assumes nothing.
use borrow.Author.Rules.{rules}
use Rattle.verify.proofs.Counting.{linked-inside}
use Rattle.verify.proofs.counts.count_linked.Goals as goal

pub count-requires-clause-callable : goal.count-requires-clause-callable
count-requires-clause-callable c = λ i room inside size. let z = linked-inside _ _ c.args.s.now.accepted c.requires.0 inside in search rules
