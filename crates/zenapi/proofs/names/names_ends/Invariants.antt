-- `zenapi::names::names_ends` meets its contract: what was added and what is left are the sum.
use Rattle.zenapi.proofs.Ends.{Adding}
use Rattle.zenapi.proofs.names.names_ends.Given as goal

abbrev pub invariant-loop-i : goal.invariant-loop-i
invariant-loop-i l = Adding l.p.block.now l.p.layout l.total l.i
