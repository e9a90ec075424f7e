-- `ascii::put_all`: after i turns the array's front has the first i units, and their bits are gathered. Assumes nothing.
use mathlib.Core.Path.{◌≡◌, refl, ◌∙◌, ap}
use mathlib.Core.Bool.{true}
use mathlib.Core.List.{List, map}
use Prim.Native.Nat.{ℕ}
use native.Mathlib.Nat.{zero-add}
use native.Mathlib.Omega.{arith}
use lib.ListN.{length}
use lib.Seq.{take_all}
use Rattle.base.specs.OutputLaws.{wrote_none, wrote-copy, wrote_as}
use Rattle.lower.specs.Ascii.{lower_ascii}
use Rattle.text.specs.Units.{units_of}
use Rattle.ids.specs.LoweredUnits.{bits_from}
use Rattle.ids.proofs.AsciiUnits.{lowered-there}
use Rattle.ids.proofs.WideUnits.{mapped-length, bits-next}
use Rattle.ids.proofs.ascii.put_all.Goals as goal

pub loop-i-init : goal.loop-i-init
loop-i-init c = (wrote_none _, refl)

pub loop-i-preserved : goal.loop-i-preserved
loop-i-preserved c =
    let us : List ℕ = units_of true c.args.text.bytes.now in
    let l = c.loop-i in
    let u = c.unit-u.ensures.0 in (
      rw (lowered-there us l.i c.lower_ascii.ensures u)
          (wrote-copy (map lower_ascii us) l.invariant.0 (omega (arith, mapped-length lower_ascii us)) (omega arith)),
      rw u (rw zero-add at (bits-next us 0 l.i (omega arith) l.bits l.invariant.1)),
    )

pub returns : goal.returns
returns c =
    let us : List ℕ = units_of true c.args.text.bytes.now in
    let l = c.loop-i in
    let e : length us ≡ l.i = omega arith in (
      l.invariant.1 ∙ ap (bits_from 0) (take_all l.i us (omega arith)),
      rw e (wrote_as l.invariant.0 (take_all l.i (map lower_ascii us) (omega (arith, mapped-length lower_ascii us)))),
    )
