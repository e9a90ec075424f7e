-- `note_each` meets its contract: each turn notes where a name starts.
use Rattle.batch.proofs.Noting.{Each}
use Rattle.batch.proofs.notes.Notes.note_each.Given as goal

abbrev pub invariant-loop-k : goal.invariant-loop-k
invariant-loop-k l = Each l.s l.n l.self.starts l.p l.k
