-- `packages::block::Block::export` meets its contract. Assumes nothing.
use mathlib.Core.Path.{◌∙◌}
use Prim.Native.Nat.{◌+◌, ◌*◌, ◌≤◌}
use native.Mathlib.Omega.{arith}
use lib.ListN.{length}
use Rattle.packages.specs.PackageLaws.{export-room, export-here}
use Rattle.packages.proofs.block.Block.export.Goals.{Start}
use Rattle.packages.proofs.block.Block.export.Goals as goal

there : (s : Start) → s.args.self.now.parts.exports + 72 * s.args.i + 72 ≤ length s.args.self.now.bytes.now
there s = export-room s.args.self.now.accepted s.args.i s.requires

pub overflow_mul-i : goal.overflow_mul-i
overflow_mul-i c = omega (arith, there (goal.at.overflow_mul-i c).Start)

pub overflow_add-self : goal.overflow_add-self
overflow_add-self c = omega (arith, there (goal.at.overflow_add-self c).Start)

pub export_in-requires : goal.export_in-requires
export_in-requires c = there (goal.at.export_in-requires c).Start

pub returns : goal.returns
returns c = c.export_in.ensures ∙ export-here c.args.self.now.accepted c.args.i c.requires
