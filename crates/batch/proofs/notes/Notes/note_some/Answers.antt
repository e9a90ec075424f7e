-- `note_some` meets its contract: each turn notes where a name starts and goes on to the next to note.
use native.Mathlib.Omega.{arith}
use Rattle.batch.proofs.Noting.{going_first, going_next, going_end, going_inside, going_step}
use Rattle.batch.proofs.notes.Notes.note_some.Goals as goal

pub loop-k-init : goal.loop-k-init
loop-k-init c = going_first _ _ _ _

pub overflow_sub-self : goal.overflow_sub-self
overflow_sub-self c = omega (arith, going_inside c.loop-k.invariant)

pub overflow_cast-self : goal.overflow_cast-self
overflow_cast-self c =
    let d = c.requires in
    record { fits = omega (arith, going_inside c.loop-k.invariant, d.inside, d.span) }

pub returns-then-n-before : goal.returns-then-n-before
returns-then-n-before c =
    let g = rw c.step_of-step.ensures at c.loop-k.invariant in
    going_end g (omega (arith, c.loop-k.self.full)) (rw c.step_of-step.ensures at c.if-n-before.true)

pub name_start-p-requires : goal.name_start-p-requires
name_start-p-requires c =
    let d = c.requires in
    let z = going_step c.loop-k.invariant (omega arith) in
    (omega (arith, z.0, d.heads), omega (arith, z.1, d.inside, d.ends))

pub loop-k-preserved : goal.loop-k-preserved
loop-k-preserved c = rw c.name_start-p.ensures (going_next c.loop-k.invariant (omega arith) (omega arith))
