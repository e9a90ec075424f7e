-- `packages::rows::put_outer` meets its contract. Assumes nothing.
use mathlib.Core.Path.{◌≡◌, sym}
use mathlib.Core.List.{List, [], append-nil}
use Prim.Native.Nat.{ℕ, ◌≤◌}
use native.Mathlib.Omega.{arith}
use lib.ListN.{length}
use Rattle.text.specs.Name.{text_bytes}
use Rattle.text.specs.NameLaws.{text_bytes-length}
use Rattle.base.specs.Number.{be_bytes}
use Rattle.base.specs.OutputLaws.{wrote_as}
use Rattle.packages.proofs.rows.put_outer.Goals as goal

empty : be_bytes 4 0 ≡ text_bytes []
unfolding text_bytes
empty = sym (append-nil (be_bytes 4 0))

none-fits : (s : List ℕ) → length (text_bytes []) ≤ length s → 4 ≤ length s
none-fits s h = omega (arith, text_bytes-length [])

pub put_be32-requires : goal.put_be32-requires
put_be32-requires c = none-fits _ (rw c.in-None.is at c.requires.1)

pub returns-in-None : goal.returns-in-None
returns-in-None c = rw c.in-None.is (wrote_as c.put_be32.ensures empty)
