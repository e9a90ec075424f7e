-- `start_of` meets its contract: the names from the nearest note lead to name i.
use native.Mathlib.Omega.{arith}
use Rattle.batch.proofs.Noting.{Near, near, near-start, start-inside}
use Rattle.batch.proofs.notes.NotedNames.start.Goals.{After-step_of-step}
use Rattle.batch.proofs.notes.NotedNames.start.Goals as goal

near-at : (c : After-step_of-step) → Near c.args.self.now.block.now c.args.self.now.names c.args.self.now.notes.now.starts c.args.self.now.held c.args.self.now.noted c.args.i c.requires c.step_of-step.result
near-at c = near _ _ _ _ _ _ _ _ c.step_of-step.ensures

pub overflow_add-result : goal.overflow_add-result
overflow_add-result c =
    let s = c.args.self.now in
    omega (arith, near-start _ _ _ s.held s.noted _ c.requires c.if-n-lt-NOTES.true, start-inside _ _ _ s.held s.noted _ c.requires)

pub returns-then-n-lt-NOTES : goal.returns-then-n-lt-NOTES
returns-then-n-lt-NOTES c =
    near-start _ _ _ c.args.self.now.held c.args.self.now.noted _ c.requires c.if-n-lt-NOTES.true

pub overflow_add-n-2 : goal.overflow_add-n-2
overflow_add-n-2 c = let z = near-at (goal.at.overflow_add-n-2 c).After-step_of-step in omega (arith, z.note)

pub name_start-requires : goal.name_start-requires
name_start-requires c =
    let z = near-at (goal.at.name_start-requires c).After-step_of-step in
    (omega (arith, z.head, z.before), omega (arith, z.start, z.inside))

pub returns : goal.returns
returns c =
    let z = near-at (goal.at.returns c).After-step_of-step in
    rw z.start at c.name_start.ensures
