-- `measure::units_len` meets its contract. The loop's invariant: what the units passed take, and what those from i on take. Assumes nothing.
use mathlib.Core.Path.{ap}
use native.Mathlib.Omega.{arith}
use Prim.Native.Nat.{◌+◌}
use lib.ListN.{drop_of_length-le}
use Rattle.text.specs.Units.{units_in}
use Rattle.text.specs.UnitsLaws.{units_of_bound}
use Rattle.text.specs.UnitLength.{units_length}
use Rattle.text.proofs.measure.units_len.Goals as goal

pub overflow_add-at : goal.overflow_add-at
overflow_add-at c = let p = c.args.part in omega (arith, units_of_bound p.wide p.bytes.now)

pub returns : goal.returns
returns c =
    let p = c.args.part in
    let e = ap units_length (drop_of_length-le (units_in p) {i = c.loop-i.i} (omega arith)) in
    (omega arith, omega (arith, units_of_bound p.wide p.bytes.now))

pub returns-2 : goal.returns-2
returns-2 c =
    let p = c.args.part in
    let e = ap units_length (drop_of_length-le (units_in p) {i = c.loop-i.i + c.min.result} (omega arith)) in
    (omega arith, omega (arith, units_of_bound p.wide p.bytes.now))
