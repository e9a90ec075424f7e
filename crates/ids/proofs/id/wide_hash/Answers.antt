-- `id::wide_hash`: a short name that is ASCII by the array that has its units, any other by its bytes. Assumes nothing.
use mathlib.Core.Path.{◌≡◌, ◌∙◌, ap}
use mathlib.Core.Bool.{true}
use mathlib.Core.List.{List}
use Prim.Native.Nat.{ℕ}
use lib.ListN.{take}
use Rattle.base.specs.OutputLaws.{wrote-taken}
use Rattle.text.specs.Utf16.{unit_bytes}
use Rattle.text.specs.Name.{base}
use Rattle.city.specs.City.{city_hash64}
use Rattle.ids.specs.LoweredUnits.{name_units}
use Rattle.ids.proofs.AsciiUnits.{wide-words}
use Rattle.ids.proofs.id.wide_hash.Goals.{In-Some}
use Rattle.ids.proofs.id.wide_hash.Goals as goal

-- the units of the name are in front of the array
all : (c : In-Some) → take c.in-Some.n c.put_ascii.new.units ≡ name_units (base true c.args.name.text.bytes.now) c.args.name.suffix.now
all c = wrote-taken c.in-Some.ensures.1

pub invariant_of-array_hash : goal.invariant_of-array_hash
invariant_of-array_hash c =
    let n = c.args.name in
    let w = wide-words n.text.bytes.now n.text.fits n.text.well n.suffix.now n.fits in
    record { words = rw (all (goal.at.invariant_of-array_hash c).In-Some) w }

pub returns : goal.returns
returns c = c.array_hash.ensures ∙ ap (λ (s : List ℕ). city_hash64 (unit_bytes s)) (all (goal.at.returns c).In-Some)
