-- `note_some` meets its contract: each turn notes where a name starts and goes on to the next to note.
use Rattle.batch.proofs.Noting.{Going}
use Rattle.batch.proofs.notes.Notes.note_some.Given as goal

abbrev pub invariant-loop-k : goal.invariant-loop-k
invariant-loop-k l = Going l.s l.n l.step l.self.starts l.p l.k
