-- `units::PathUnits::long_hash` meets its contract. The loop's invariant: the turns left, over the bytes from here on, end where all turns end.
-- Assumes nothing.
use mathlib.Core.Path.{◌≡◌}
use Prim.Native.Nat.{◌-◌, ◌*◌}
use lib.ListN.{drop}
use Rattle.city.specs.City.{turns}
use Rattle.text.specs.Utf16.{unit_bytes}
use Rattle.hashes.specs.Chain.{chain_units}
use Rattle.hashes.proofs.units.PathUnits.long_hash.Given as goal

abbrev pub invariant-loop-i : goal.invariant-loop-i
invariant-loop-i l =
    let bytes = unit_bytes (chain_units l.self.names.now l.self.chain.now) in
    turns (l.turns - l.i) (drop (64 * l.i) bytes) l.t ≡ turns l.turns bytes l.initial.t

abbrev pub decreases-loop-i : goal.decreases-loop-i
decreases-loop-i l = l.turns - l.i
