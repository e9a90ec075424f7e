-- `search::search` meets its contract, for all entries that the table holds. Assumes nothing.
use Prim.Native.Nat.{ℕ, ◌-◌}
use Rattle.table.specs.Table.{Holds}
use Rattle.table.proofs.Searching.{Search}
use Rattle.table.proofs.search.search.Given as goal

abbrev pub invariant-loop-i : goal.invariant-loop-i
invariant-loop-i l =
    (k : ℕ) (los his : ℕ → ℕ) (t : Holds l.n l.stride k los his l.w) → Search l.n l.stride k los his l.w t l.lo l.hi l.place l.depth

abbrev pub decreases-loop-i : goal.decreases-loop-i
decreases-loop-i l = 128 - l.depth
