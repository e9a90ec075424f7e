-- `id::put_bytes`: a turn puts the unit of one byte more. Assumes nothing.
use mathlib.Core.Path.{◌≡◌, sym, ◌∙◌, ap}
use mathlib.Core.List.{List, map}
use Prim.Native.Nat.{ℕ}
use native.Mathlib.Omega.{arith}
use lib.ListN.{length, get_or}
use lib.Seq.{take_all}
use Rattle.std.proofs.lemmas.List.{get_or-map}
use Rattle.base.specs.OutputLaws.{wrote_none, wrote_as}
use Rattle.text.specs.Utf16.{unit_bytes}
use Rattle.ids.proofs.ShortUnits.{wrote-next}
use Rattle.ids.proofs.WideUnits.{mapped-length}
use Rattle.ids.proofs.id.put_bytes.Goals as goal

pub loop-i-init : goal.loop-i-init
loop-i-init g c f k = wrote_none _

pub loop-i-preserved : goal.loop-i-preserved
loop-i-preserved g c f k =
    let x : List ℕ = c.args.bytes.now in
    let i : ℕ = c.loop-i.i in
    let e = k (get_or x i 0) c.lower.result (c.type_inv.bytes i).fits c.lower.ensures in
    rw c.put_unit.ensures
    (wrote-next (map f x) i (c.from.ensures ∙ e ∙ sym (get_or-map f x i 0 0 c.loop-i-test.true))
    (c.loop-i.invariant f k) (omega (arith, mapped-length f x)) (omega arith))

pub returns : goal.returns
returns g c f k =
    let x : List ℕ = c.args.bytes.now in
    let e : length x ≡ c.loop-i.i = omega arith in
    rw e (wrote_as (c.loop-i.invariant f k) (ap unit_bytes (take_all c.loop-i.i (map f x) (omega (arith, mapped-length f x)))))
