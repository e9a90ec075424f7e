-- `utf16::is_paired` meets its contract. The loop's invariant: the part is a text exactly where its units from i on are one.
use Prim.Native.Nat.{ℕ, ◌+◌, ◌≤◌, ◌<◌}
use mathlib.Core.Path.{◌≡◌, sym, ap, ◌∙◌}
use mathlib.Core.Bool.{true, false}
use mathlib.Core.List.{List}
use native.Mathlib.Omega.{arith}
use lib.ListN.{length, drop, length-drop, drop_of_length-le}
use lib.Seq.{drop-drop}
use Rattle.base.specs.NumberLaws.{Bytes}
use Rattle.std.specs.Prelude.{Option, Some, None}
use Rattle.text.specs.Utf16.{is_well, utf16}
use Rattle.text.specs.Name.{decoded}
use Rattle.text.specs.Units.{units_of, scalar_of}
use Rattle.text.specs.UnitsLaws.{words-drop, units_of-words, units_of_bound, decoded-units, scalar-some, scalar-ill, some-fits, utf16-none, is_well-more}
use Rattle.text.specs.declared.utf16.Scalar.{Scalar}
use Rattle.text.proofs.utf16.is_paired.Goals.{In-Some}
use Rattle.text.proofs.utf16.is_paired.Goals as goal

-- the scalar value r that unit i starts, where the part has n units: whether the part is a text shows from the units behind it
module _ (part : List ℕ) (n : ℕ) (k : n ≡ length (units_of true part)) (i : ℕ)
    (t : is_well (decoded true part) ≡ is_well (utf16 (drop i (units_of true part)))) where
  all : n ≤ i → true ≡ is_well (decoded true part)
  all l = rw (t, drop_of_length-le (units_of true part) (rw k at l), utf16-none)

  module _ (r : Option Scalar) (e : r ≡ scalar_of (drop i (units_of true part))) where
    next : (c : Scalar) → r ≡ Some c → is_well (decoded true part) ≡ is_well (utf16 (drop (i + c.units) (units_of true part)))
    next c q = rw (t, scalar-some _ (sym e ∙ q), is_well-more, drop-drop)

    none : i < n → r ≡ None → false ≡ is_well (decoded true part)
    none l q = rw (t, scalar-ill _ (rw (length-drop, ← k) (omega arith)) (sym e ∙ q))

    moves : (c : Scalar) → r ≡ Some c → i < n → Bytes part → (0 < c.units) × (i + c.units ≤ n)
    moves c q l b =
        let us = units_of true part in
        let f = some-fits (drop i us) (words-drop i us (units_of-words true part b)) (sym e ∙ q) in
        (f.0, omega (arith, rw length-drop at f.1))

-- the units of the scalar value are there
room : (c : In-Some) → (0 < c.in-Some.c.units) × (c.loop-i.i + c.in-Some.c.units ≤ c.count-n.result)
room c = moves _ _ c.count-n.ensures _ c.loop-i.invariant.1 _ c.scalar_at.ensures _ c.in-Some.is c.loop-i-test.true (λ j. (c.type_inv.bytes j).fits)

pub loop-i-init : goal.loop-i-init
loop-i-init c = (omega arith, ap is_well (decoded-units _ _ (λ j. (c.type_inv.bytes j).fits)))

pub returns-in_default : goal.returns-in_default
returns-in_default c = search none

pub overflow_add-i : goal.overflow_add-i
overflow_add-i c = omega (arith, room (goal.at.overflow_add-i c).In-Some, units_of_bound true c.args.bytes.now, c.count-n.ensures)

pub loop-i-smaller : goal.loop-i-smaller
loop-i-smaller c = omega (arith, room (goal.at.loop-i-smaller c).In-Some)

pub loop-i-preserved : goal.loop-i-preserved
loop-i-preserved c = ((room (goal.at.loop-i-preserved c).In-Some).1, search next)

pub returns : goal.returns
returns c = search all
