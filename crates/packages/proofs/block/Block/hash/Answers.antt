-- `packages::block::Block::hash` meets its contract. Assumes nothing.
use mathlib.Core.Path.{◌∙◌}
use Prim.Native.Nat.{◌+◌, ◌*◌, ◌≤◌}
use native.Mathlib.Omega.{arith}
use lib.ListN.{length}
use Rattle.packages.specs.PackageLaws.{hash-room, hash-here}
use Rattle.packages.proofs.block.Block.hash.Goals.{Start}
use Rattle.packages.proofs.block.Block.hash.Goals as goal

there : (s : Start) → s.args.self.now.parts.hashes + 8 * s.args.i + 8 ≤ length s.args.self.now.bytes.now
there s = hash-room s.args.self.now.accepted s.args.i s.requires

pub overflow_mul-i : goal.overflow_mul-i
overflow_mul-i c = omega (arith, there (goal.at.overflow_mul-i c).Start)

pub overflow_add-self : goal.overflow_add-self
overflow_add-self c = omega (arith, there (goal.at.overflow_add-self c).Start)

pub le64-requires : goal.le64-requires
le64-requires c = there (goal.at.le64-requires c).Start

pub returns : goal.returns
returns c = c.le64.ensures ∙ hash-here c.args.self.now.accepted c.args.i c.requires
