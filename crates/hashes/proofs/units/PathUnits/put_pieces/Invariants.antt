-- `units::PathUnits::put_pieces` meets its contract. The loop's invariant: what is written, and the window of what the objects left bring, are the
-- window of all. Assumes nothing.
use mathlib.Core.Path.{◌≡◌}
use Prim.Native.Nat.{◌+◌, ◌-◌, ◌*◌, ◌≤◌}
use lib.ListN.{length, take, drop}
use Rattle.text.specs.Utf16.{unit_bytes}
use Rattle.hashes.specs.Chain.{pieces}
use Rattle.hashes.specs.PieceLaws.{Filled}
use Rattle.hashes.proofs.units.PathUnits.put_pieces.Given as goal

abbrev pub invariant-loop-u : goal.invariant-loop-u
invariant-loop-u l =
    let b = l.self.names.now in
    let c = l.self.chain.now in
    let rest = l.u-iterator.iter.rest.now in
    (length rest ≤ length c) × (rest ≡ take (length rest) c) × (l.left ≤ l.n) × (l.skip + l.left ≤ length (pieces b c (length rest)))
    × Filled l.initial.out (unit_bytes (take l.n (drop l.from (pieces b c (length c))))) l.out
    (unit_bytes (take l.left (drop l.skip (pieces b c (length rest))))) (2 * (l.n - l.left))
    × (length l.out ≡ length l.initial.out)
