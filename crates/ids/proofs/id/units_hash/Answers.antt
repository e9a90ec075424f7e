-- `id::units_hash`: by the width of the text and how many units there are. Assumes nothing.
use mathlib.Core.Path.{◌≡◌, sym, ◌∙◌, ap}
use mathlib.Core.List.{List}
use Prim.Native.Nat.{ℕ, ◌+◌, ◌≤◌}
use native.Mathlib.Omega.{arith}
use lib.ListN.{length}
use Rattle.text.specs.Utf16.{unit_bytes}
use Rattle.text.specs.Parts.{base_in}
use Rattle.text.specs.Units.{units_in}
use Rattle.text.specs.UnitsLaws.{units_of_bound}
use Rattle.city.specs.City.{city_hash64}
use Rattle.ids.specs.LoweredUnits.{name_units}
use Rattle.ids.proofs.NameUnits.{name-length, narrow-name, narrow-count}
use Rattle.ids.proofs.id.units_hash.Goals.{Start}
use Rattle.ids.proofs.id.units_hash.Goals as goal

-- how many units the name has
count : (c : Start)
    → length (name_units (base_in c.args.name.text.part) c.args.name.suffix.now) ≡ length (units_in c.args.name.text.part) + length c.args.name.suffix.now
count c =
    let n = c.args.name in
    let p = n.text.part in
    name-length p.wide p.bytes.now p.fits n.text.well n.suffix.now

pub wide_hash-requires : goal.wide_hash-requires
wide_hash-requires c =
    let l : length (name_units (base_in c.args.name.text.part) c.args.name.suffix.now) ≤ 32 = omega arith in
    rw c.if-part.true at l

pub long_hash-requires : goal.long_hash-requires
long_hash-requires c =
    let p = c.args.name.text.part in
    let l = count (goal.at.long_hash-requires c).Start in
    (omega arith, omega (arith, units_of_bound p.wide p.bytes.now))

pub narrow_hash-requires : goal.narrow_hash-requires
narrow_hash-requires c =
    omega (arith, count (goal.at.narrow_hash-requires c).Start, narrow-count c.if-part.false c.args.name.text.part.bytes.now)

pub returns-then-n-le32 : goal.returns-then-n-le32
returns-then-n-le32 c =
    let n = c.args.name in
    let p = n.text.part in
    c.narrow_hash.ensures
    ∙ ap (λ (s : List ℕ). city_hash64 (unit_bytes s)) (sym (narrow-name c.if-part.false p.bytes.now p.fits n.suffix.now))

pub whole_hash-requires : goal.whole_hash-requires
whole_hash-requires c =
    let l = narrow-count c.if-not-part.true c.args.name.text.part.bytes.now in
    let n = count (goal.at.whole_hash-requires c).Start in
    (omega arith, omega arith)

pub returns-then-part-n : goal.returns-then-part-n
returns-then-part-n c =
    let n = c.args.name in
    let p = n.text.part in
    c.whole_hash.ensures
    ∙ ap (λ (s : List ℕ). city_hash64 (unit_bytes s)) (sym (narrow-name c.if-not-part.true p.bytes.now p.fits n.suffix.now))
