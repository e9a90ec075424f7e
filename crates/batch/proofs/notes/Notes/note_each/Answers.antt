-- `note_each` meets its contract: each turn notes where a name starts.
use native.Mathlib.Omega.{arith}
use Rattle.batch.proofs.Noting.{each_first, each-small, each_next}
use Rattle.batch.proofs.notes.Notes.note_each.Goals as goal

pub loop-k-init : goal.loop-k-init
loop-k-init c = each_first _ _ _ c.args.self.now.full

pub overflow_cast-self : goal.overflow_cast-self
overflow_cast-self c = record { fits = each-small c.loop-k.invariant c.requires.0 (omega arith) }

pub overflow_add-p : goal.overflow_add-p
overflow_add-p c = omega (arith, each-small c.loop-k.invariant c.requires.0 (omega arith), c.read_head-p.ensures.1)

pub loop-k-preserved : goal.loop-k-preserved
loop-k-preserved c = rw c.read_head-p.ensures.0 (each_next c.loop-k.invariant (omega arith))
