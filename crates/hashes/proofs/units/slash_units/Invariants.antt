-- `units::slash_units` meets its contract. The loop's invariant: what is in front, and the units left slashed, are all units slashed. Assumes
-- nothing.
use mathlib.Core.Path.{◌≡◌}
use mathlib.Core.List.{◌++◌}
use Prim.Native.Nat.{◌-◌, ◌*◌, ◌≤◌}
use lib.ListN.{length, take, drop}
use Rattle.hashes.specs.Slash.{slash_bytes}
use Rattle.hashes.proofs.units.slash_units.Given as goal

abbrev pub invariant-loop-i : goal.invariant-loop-i
invariant-loop-i l =
    (l.i ≤ l.n) × (length l.out ≡ length l.initial.out)
    × (take (2 * l.i) l.out ++ slash_bytes (l.n - l.i) (drop (2 * l.i) l.out) ≡ slash_bytes l.n l.initial.out)
