-- `check::regions_of` meets its contract: sums that 64 bits hold. Assumes nothing.
use native.Mathlib.Omega.{arith}
use Rattle.header.specs.Parts.{regions_of}
use Rattle.header.specs.PartsLaws.{batch-most}
use Rattle.header.proofs.check.regions_of.Goals as goal

pub overflow_add-hashes : goal.overflow_add-hashes
overflow_add-hashes c = omega (arith, batch-most _ _ c.requires.strings)

pub overflow_add-hashes-2 : goal.overflow_add-hashes-2
overflow_add-hashes-2 c = omega (arith, batch-most _ _ c.requires.strings)

pub overflow_add-exports : goal.overflow_add-exports
overflow_add-exports c = omega (arith, batch-most _ _ c.requires.strings)

pub overflow_add-imported : goal.overflow_add-imported
overflow_add-imported c = omega (arith, batch-most _ _ c.requires.strings)

pub overflow_add-size : goal.overflow_add-size
overflow_add-size c = let p = c.requires in omega (arith, batch-most _ _ p.strings, batch-most _ _ p.spelt)

pub overflow_add-size-2 : goal.overflow_add-size-2
overflow_add-size-2 c = let p = c.requires in omega (arith, batch-most _ _ p.strings, batch-most _ _ p.spelt)

pub returns : goal.returns
unfolding regions_of
returns c = rw (c.batch_size.ensures, c.batch_size-2.ensures)
