-- `id::put_units`: one-byte text at once, else its base and its suffix. Assumes nothing.
use mathlib.Core.Path.{ap}
use Prim.Native.Nat.{◌-◌, ◌≤◌}
use native.Mathlib.Omega.{arith}
use lib.ListN.{length}
use Rattle.lower.specs.Lower.{lowered}
use Rattle.base.specs.OutputLaws.{wrote_as}
use Rattle.text.specs.Utf16.{encode16, unit_bytes}
use Rattle.text.specs.Parts.{base_in}
use Rattle.text.specs.UnitsLaws.{units_of_bound}
use Rattle.ids.proofs.NameUnits.{part_length, name-length, narrow-is, narrow-count, name-first}
use Rattle.ids.proofs.ShortUnits.{wrote-part}
use Rattle.ids.proofs.id.put_units.Goals as goal

pub overflow_add-from : goal.overflow_add-from
overflow_add-from c =
    let n = c.args.name in
    let p = n.text.part in
    omega (arith, name-length p.wide p.bytes.now p.fits n.text.well n.suffix.now, units_of_bound p.wide p.bytes.now)

pub returns-then-from-n : goal.returns-then-from-n
returns-then-from-n c =
    let a = c.args in
    let p = a.name.text.part in
    let e = c.if-not-part.true in
    let l : a.n ≤ length (encode16 (lowered (base_in p))) - a.from =
    omega (arith, part_length p.wide p.bytes.now p.fits a.name.text.well, narrow-count e p.bytes.now) in
    let q = rw (narrow-is e p.bytes.now p.fits) at (name-first (base_in p) a.name.suffix.now a.from a.n l) in
    wrote_as (wrote-part p.bytes.now a.from a.n _ (omega arith) (omega arith) c.put_narrow.ensures) (ap unit_bytes q)
