-- `imported_number` meets its contract: what number i is read from is within the header.
use Prim.Native.Nat.{◌+◌, ◌*◌, ◌≤◌}
use mathlib.Core.Path.{sym, ◌∙◌}
use native.Mathlib.Omega.{arith}
use lib.ListN.{length}
use Rattle.zen.specs.Accepted.{Parts}
use Rattle.zen.proofs.Accepted.{parts, number-there, number_is}
use Rattle.zen.proofs.access.Package.imported_number.Goals.{Start}
use Rattle.zen.proofs.access.Package.imported_number.Goals as goal

known : (s : Start) → Parts s.args.self.block.now s.args.self.layout
known s = let p = s.args.self in parts _ _ p.accepted

there : (s : Start) → s.args.self.layout.imported.«end» + 4 * s.args.i + 4 ≤ length s.args.self.block.now
there s = omega (arith, number-there (known s) s.args.i s.requires, (known s).size)

pub overflow_mul-i : goal.overflow_mul-i
overflow_mul-i c = omega (arith, there (goal.at.overflow_mul-i c).Start)

pub overflow_add-self : goal.overflow_add-self
overflow_add-self c = omega (arith, there (goal.at.overflow_add-self c).Start)

pub le32-requires : goal.le32-requires
le32-requires c = there (goal.at.le32-requires c).Start

pub returns : goal.returns
returns c = c.le32.ensures ∙ sym (number_is (known (goal.at.returns c).Start) c.args.i c.requires)
