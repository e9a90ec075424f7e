-- `wide::put_ruled`: a turn puts one unit more, unless the table is to be asked for it. Assumes nothing.
use mathlib.Core.Path.{◌≡◌, refl, sym, ◌∙◌}
use mathlib.Core.Bool.{true}
use mathlib.Core.List.{List}
use mathlib.Core.Logic.{inl, inr}
use Prim.Native.Nat.{ℕ, ◌+◌}
use native.Mathlib.Omega.{arith}
use lib.ListN.{get_or}
use Rattle.lower.specs.Lower.{lowered}
use Rattle.rules.specs.Quick.{asks}
use Rattle.base.specs.OutputLaws.{wrote_none}
use Rattle.text.specs.Utf16.{encode16}
use Rattle.text.specs.Name.{base}
use Rattle.text.specs.Units.{units_of}
use Rattle.text.specs.UnitsLaws.{units_of_bound}
use Rattle.ids.proofs.NameUnits.{part_length}
use Rattle.ids.proofs.PutUnits.{put_next}
use Rattle.ids.proofs.WideUnits.{none-asked, some-known, lowered-fits}
use Rattle.ids.proofs.wide.put_ruled.Goals.{In-Some}
use Rattle.ids.proofs.wide.put_ruled.Goals as goal

pub loop-i-init : goal.loop-i-init
loop-i-init c = wrote_none _

pub overflow_add-from : goal.overflow_add-from
overflow_add-from c = omega (arith, units_of_bound true c.args.text.bytes.now)

-- the unit that the rules give
given : (c : In-Some) → c.in-Some.u ≡ get_or (encode16 (lowered (base true c.args.text.bytes.now))) (c.args.from + c.loop-i.i) 0
given c =
    let t = c.args.text in
    let i : ℕ = c.args.from + c.loop-i.i in
    some-known (asks (get_or (units_of true t.bytes.now) i 0)) (get_or (encode16 (lowered (base true t.bytes.now))) i 0)
    (sym c.in-Some.is ∙ rw (c.from.ensures.0, c.from.ensures.1) at c.quick_unit.ensures)

pub overflow_cast-u : goal.overflow_cast-u
overflow_cast-u c =
    let t = c.args.text in
    let e = given (goal.at.overflow_cast-u c).In-Some in
    omega (arith, lowered-fits true t.bytes.now t.fits t.well (c.args.from + c.loop-i.i) (omega arith))

pub loop-i-preserved : goal.loop-i-preserved
loop-i-preserved c =
    let t = c.args.text in
    let us : List ℕ = encode16 (lowered (base true t.bytes.now)) in
    rw c.put_unit.ensures
    (put_next us c.args.from c.loop-i.i c.loop-i.invariant (omega (arith, part_length true t.bytes.now t.fits t.well)) (omega arith)
    (given (goal.at.loop-i-preserved c).In-Some))

pub returns-in_default : goal.returns-in_default
returns-in_default c =
    let t = c.args.text in
    let i : ℕ = c.args.from + c.loop-i.i in (
      omega arith,
      c.loop-i.invariant,
      inr (none-asked (asks (get_or (units_of true t.bytes.now) i 0)) (get_or (encode16 (lowered (base true t.bytes.now))) i 0)
          (sym c.in_default.is ∙ rw (c.from.ensures.0, c.from.ensures.1) at c.quick_unit.ensures)),
    )

pub returns : goal.returns
returns c =
    let e : c.args.n ≡ c.loop-i.i = omega arith in
    (omega arith, rw e c.loop-i.invariant, inl refl)
