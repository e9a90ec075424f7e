-- `hash_at` meets its contract: what number i is read from is within the header.
use Prim.Native.Nat.{◌+◌, ◌*◌, ◌≤◌}
use mathlib.Core.Path.{sym, ◌∙◌}
use native.Mathlib.Omega.{arith}
use lib.Seq.{length-take-le}
use Rattle.zen.specs.Accepted.{Parts}
use Rattle.zen.proofs.Accepted.{parts, hash-there, hash-is}
use Rattle.zen.proofs.access.Package.hash_at.Goals.{Start}
use Rattle.zen.proofs.access.Package.hash_at.Goals as goal

known : (s : Start) → Parts s.args.self.block.now s.args.self.layout
known s = let p = s.args.self in parts _ _ p.accepted

there : (s : Start) → s.args.self.layout.summary.hashes + 8 * s.args.i + 8 ≤ s.args.self.layout.size
there s = hash-there (known s) s.args.i s.requires

pub overflow_mul-i : goal.overflow_mul-i
overflow_mul-i c = let s = (goal.at.overflow_mul-i c).Start in omega (arith, there s, (known s).size)

pub overflow_add-self : goal.overflow_add-self
overflow_add-self c = let s = (goal.at.overflow_add-self c).Start in omega (arith, there s, (known s).size)

pub le64-requires : goal.le64-requires
le64-requires c =
    let s = (goal.at.le64-requires c).Start in
    rw (c.header.ensures, length-take-le c.args.self.layout.size c.args.self.block.now (known s).size) (there s)

pub returns : goal.returns
returns c = rw c.header.ensures at c.le64.ensures ∙ sym (hash-is (known (goal.at.returns c).Start) c.args.i c.requires)
