-- `packages::block::Block::imported_number` meets its contract. Assumes nothing.
use mathlib.Core.Path.{◌∙◌}
use Prim.Native.Nat.{◌+◌, ◌*◌, ◌≤◌}
use native.Mathlib.Omega.{arith}
use lib.ListN.{length}
use Rattle.packages.specs.PackageLaws.{number-room, number-here}
use Rattle.packages.proofs.block.Block.imported_number.Goals.{Start}
use Rattle.packages.proofs.block.Block.imported_number.Goals as goal

there : (s : Start) → s.args.self.now.parts.imported.«end» + 4 * s.args.i + 4 ≤ length s.args.self.now.bytes.now
there s = number-room s.args.self.now.accepted s.args.i s.requires

pub overflow_mul-i : goal.overflow_mul-i
overflow_mul-i c = omega (arith, there (goal.at.overflow_mul-i c).Start)

pub overflow_add-self : goal.overflow_add-self
overflow_add-self c = omega (arith, there (goal.at.overflow_add-self c).Start)

pub le32-requires : goal.le32-requires
le32-requires c = there (goal.at.le32-requires c).Start

pub returns : goal.returns
returns c = c.le32.ensures ∙ number-here c.args.self.now.accepted c.args.i c.requires
