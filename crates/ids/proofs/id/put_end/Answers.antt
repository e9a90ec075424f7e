-- `id::put_end`: after each turn the buffer's front has the bytes of the first i units, 2 * i of them. Assumes nothing.
use mathlib.Core.Path.{◌≡◌, ap}
use mathlib.Core.List.{List, ◌++◌}
use Prim.Native.Nat.{ℕ, ◌+◌}
use native.Mathlib.Omega.{arith}
use lib.ListN.{length}
use lib.Seq.{take_all}
use Rattle.base.specs.OutputLaws.{wrote_as}
use Rattle.text.specs.Utf16.{unit_bytes}
use Rattle.lower.specs.Lower.{lowered}
use Rattle.ids.proofs.ShortUnits.{narrow-length, wrote-there, wrote-next}
use Rattle.ids.proofs.id.put_end.Goals as goal

pub loop-i-init : goal.loop-i-init
loop-i-init c = wrote-there c.requires.2 (omega arith)

pub put_unit-requires : goal.put_unit-requires
put_unit-requires c = omega (arith, narrow-length c.args.name.base.now c.args.name.suffix.now)

pub loop-i-preserved : goal.loop-i-preserved
loop-i-preserved c =
    let n = c.args.name in
    let us : List ℕ = lowered n.base.now ++ n.suffix.now in
    let l = narrow-length n.base.now n.suffix.now in
    rw c.put_unit.ensures (wrote-next us c.loop-i.i c.unit.ensures.0 c.loop-i.invariant (omega arith) (omega arith))

pub returns : goal.returns
returns c =
    let n = c.args.name in
    let us : List ℕ = lowered n.base.now ++ n.suffix.now in
    let l = narrow-length n.base.now n.suffix.now in
    let e : length n.base.now + length n.suffix.now ≡ c.loop-i.i = omega arith in
    rw e (wrote_as c.loop-i.invariant (ap unit_bytes (take_all c.loop-i.i us (omega arith))))
