-- `id::long_hash`: the turns left, over the bytes from here on, end where all turns end. Assumes nothing.
use mathlib.Core.Path.{◌≡◌}
use Prim.Native.Nat.{◌-◌, ◌*◌, ◌/◌}
use lib.ListN.{drop}
use Rattle.text.specs.Utf16.{unit_bytes}
use Rattle.text.specs.Parts.{base_in}
use Rattle.city.specs.City.{turns}
use Rattle.ids.specs.LoweredUnits.{name_units}
use Rattle.ids.proofs.id.long_hash.Given as goal

abbrev pub invariant-loop-k : goal.invariant-loop-k
invariant-loop-k l =
    turns ((2 * l.n - 1) / 64 - l.k) (drop (2 * (32 * l.k)) (unit_bytes (name_units (base_in l.name.text.part) l.name.suffix.now))) l.t
    ≡ turns ((2 * l.n - 1) / 64) (unit_bytes (name_units (base_in l.name.text.part) l.name.suffix.now)) l.initial.t
