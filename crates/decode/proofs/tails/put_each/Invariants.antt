-- `tails::put_each` meets its contract. The loop's invariant: what of the bytes so far is kept is written. Assumes nothing.
use Rattle.decode.specs.Tails.{Filling}
use Rattle.decode.proofs.tails.put_each.Given as goal

abbrev pub invariant-loop-b : goal.invariant-loop-b
invariant-loop-b l = Filling l.initial.out 0 l.s l.out l.b-index l.n l.before
