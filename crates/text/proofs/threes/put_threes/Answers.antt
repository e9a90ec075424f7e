-- `threes::put_threes` meets its contract: each turn passes two units, and writes their bytes behind those before. Assumes nothing.
use mathlib.Core.Path.{◌≡◌, refl, sym, ◌∙◌}
use mathlib.Core.Bool.{true}
use Prim.Native.Nat.{◌+◌, ◌≤◌}
use native.Mathlib.Omega.{arith}
use lib.ListN.{drop}
use Rattle.base.specs.OutputLaws.{wrote-length}
use Rattle.text.specs.Units.{units_in}
use Rattle.text.specs.UnitsLaws.{units_of-words, units_of_bound}
use Rattle.text.specs.Front.{well_from, starts_three}
use Rattle.text.specs.declared.text.Part.{Part}
use Rattle.text.proofs.NameLoop.{written_none}
use Rattle.text.proofs.ThreesLoop.{Pair, pair, front_end, two_fit, two_written}
use Rattle.text.proofs.threes.put_threes.Goals as goal

pub loop-out-init : goal.loop-out-init
loop-out-init c = let p = c.requires in record { within = p.0; room = refl; well = p.1; written = written_none refl; passed = refl; ends = refl }

-- what a turn passes
turn : (p : Part) (i : Prim.Native.Nat.ℕ) → well_from (units_in p) i ≡ true → starts_three (drop i (units_in p)) ≡ true → Pair (units_in p) i
turn p i = pair (units_in p) i (units_of-words p.wide p.bytes.now p.fits)

pub unit-requires : goal.unit-requires
unit-requires c =
    let t = turn c.args.part c.loop-out.i c.loop-out.invariant.well (sym c.starts_three.ensures ∙ c.loop-out-test.true) in
    omega (arith, t.within)

pub overflow_add-i : goal.overflow_add-i
overflow_add-i c =
    let p = c.args.part in
    let t = turn p c.loop-out.i c.loop-out.invariant.well (sym c.starts_three.ensures ∙ c.loop-out-test.true) in
    omega (arith, t.within, units_of_bound p.wide p.bytes.now)

pub unit-requires-in-loop-out : goal.unit-requires-in-loop-out
unit-requires-in-loop-out c =
    let t = turn c.args.part c.loop-out.i c.loop-out.invariant.well (sym c.starts_three.ensures ∙ c.loop-out-test.true) in
    omega (arith, t.within)

pub put_pair-requires : goal.put_pair-requires
put_pair-requires c =
    let t = turn c.args.part c.loop-out.i c.loop-out.invariant.well (sym c.starts_three.ensures ∙ c.loop-out-test.true) in
    let e = c.unit.ensures.0 in
    let f = c.unit-in-loop-out.ensures.0 in
    (omega (arith, e, t.least), omega (arith, e, t.most), omega (arith, f, t.least₂), omega (arith, f, t.most₂), two_fit t c.loop-out.invariant.written c.requires.2)

pub overflow_add-i-in-loop-out : goal.overflow_add-i-in-loop-out
overflow_add-i-in-loop-out c =
    let p = c.args.part in
    let t = turn p c.loop-out.i c.loop-out.invariant.well (sym c.starts_three.ensures ∙ c.loop-out-test.true) in
    omega (arith, t.within, units_of_bound p.wide p.bytes.now)

pub loop-out-smaller : goal.loop-out-smaller
loop-out-smaller c =
    let t = turn c.args.part c.loop-out.i c.loop-out.invariant.well (sym c.starts_three.ensures ∙ c.loop-out-test.true) in
    omega (arith, t.within)

pub loop-out-preserved : goal.loop-out-preserved
loop-out-preserved c =
    let k = c.loop-out.invariant in
    let t = turn c.args.part c.loop-out.i k.well (sym c.starts_three.ensures ∙ c.loop-out-test.true) in
    let w = two_written t k.written (rw (c.unit.ensures.0, c.unit-in-loop-out.ensures.0) at c.put_pair.ensures) in
    record {
      within = t.within;
      room = wrote-length w.wrote;
      well = t.well;
      written = w;
      passed = omega (arith, k.passed, t.passed);
      ends = k.ends ∙ t.beyond;
    }

pub returns : goal.returns
returns c =
    let k = c.loop-out.invariant in
    let z = front_end _ (sym c.starts_three.ensures ∙ c.loop-out-test.false) in
    record { is = omega (arith, k.passed, z); within = k.within; well = k.well; beyond = k.ends; written = k.written }
