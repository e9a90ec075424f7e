-- `units::count_units` meets its contract. The loop's invariant: the names of the objects passed are counted. Assumes nothing.
use mathlib.Core.Path.{◌≡◌}
use mathlib.Core.List.{List}
use Prim.Native.Nat.{ℕ, ◌*◌, ◌≤◌}
use lib.ListN.{length}
use Rattle.base.specs.NumberLaws.{Bytes}
use Rattle.hashes.specs.Chain.{pieces, Named}
use Rattle.hashes.proofs.units.count_units.Given as goal

abbrev pub invariant-loop-u : goal.invariant-loop-u
invariant-loop-u l =
    (l.total ≤ l.u-index * 4294967296) × ((b : List ℕ) → Bytes b → Named b l.chain → l.total ≡ length (pieces b l.chain l.u-index))
