-- `text::name::put_scalars` meets its contract. The loop's invariant: what is not written yet are the bytes of the units from i on, which are
-- well-formed and end where those from `from` on do. The measure is the units left. Assumes nothing.
use mathlib.Core.Path.{◌≡◌, refl, sym, ◌∙◌}
use mathlib.Core.Bool.{true, false, not}
use Prim.Native.Nat.{ℕ, ◌≤◌}
use borrow.Author.Tests.{ne_eqb}
use native.Mathlib.Omega.{arith}
use lib.Dec.{eqb}
use Rattle.base.specs.Never.{never}
use Rattle.base.specs.OutputLaws.{wrote-length}
use Rattle.text.specs.Units.{units_in}
use Rattle.text.specs.UnitsLaws.{units_of_bound}
use Rattle.text.proofs.NameLoop.{Turn, read_some, turn-ill, end_here, end_next, end_last, written_none, turn-fits, written-turn}
use Rattle.text.proofs.name.put_scalars.Given.{Over}
use Rattle.text.proofs.name.put_scalars.Goals.{In-Some, else-not-this-via-then-not-this+else-c-lt128, else-not-this-via-else-not-this}
use Rattle.text.proofs.name.put_scalars.Goals as goal

-- the scalar value read at i
turn : {g : Over} → (c : In-Some g) → Turn (units_in c.args.part) c.loop-i.i c.in-Some.c.units c.in-Some.c.value
turn c =
    let p = c.args.part in
    read_some p.wide p.bytes.now p.fits c.loop-i.i c.loop-i.invariant.well c.scalar_at.ensures c.in-Some.is

-- all are asked for
all_not : (n : ℕ) → (n ≡ 0 → ⊥) → not (eqb n 0) ≡ false → ⊥
all_not n z e =
    let f : true ≡ false = rw (ne_eqb n 0 z) at e in
    never (cc)

pub loop-i-init : goal.loop-i-init
loop-i-init g c = let p = c.requires in record { within = p.0; room = refl; well = p.1; written = written_none refl; ends = refl }

pub returns-in_default : goal.returns-in_default
returns-in_default g c =
    absurd (turn-ill (units_in c.args.part) c.loop-i.i c.loop-i.invariant.well (omega arith) (sym c.scalar_at.ensures ∙ c.in_default.is))

pub returns-then-c-lt128 : goal.returns-then-c-lt128
returns-then-c-lt128 g c =
    let l = c.loop-i in
    let k = l.invariant in
    let z : not (eqb g.row.ALL 0) ≡ false = rw c.if-not-this.true refl in
    let here = end_here (units_in c.args.part) l.i (sym c.scalar_at.ensures ∙ c.in-Some.is) c.if-c-lt128.true in
    record { is = sym (k.ends ∙ rw z here); within = k.within; well = k.well; written = k.written }

pub put_utf8-at-requires : goal.put_utf8-at-requires
put_utf8-at-requires g c =
    let t = turn (goal.at.put_utf8-at-requires g c).In-Some in
    (t.small, turn-fits c.loop-i.invariant.written t c.requires.2)

pub overflow_add-i : goal.overflow_add-i
overflow_add-i g c =
    let p = c.args.part in
    let t = turn (goal.at.overflow_add-i g c).In-Some in
    omega (arith, t.within, units_of_bound p.wide p.bytes.now)

pub loop-i-smaller : goal.loop-i-smaller
loop-i-smaller g c = let t = turn (goal.at.loop-i-smaller g c).In-Some in omega (arith, t.moves, t.within)

pub loop-i-preserved : goal.loop-i-preserved
loop-i-preserved g c =
    let l = c.loop-i in
    let k = l.invariant in
    let t = turn (goal.at.loop-i-preserved g c).In-Some in
    let w = written-turn k.written t c.put_utf8-at.ensures in
    let s = sym c.scalar_at.ensures ∙ c.in-Some.is in
    let on : not (eqb g.row.ALL 0) ≡ false → 128 ≤ c.in-Some.c.value = λ e. elim c.else-not-this.branch [
      | else-not-this-via-then-not-this+else-c-lt128 w ↦ w.if-c-lt128.false
      | else-not-this-via-else-not-this w ↦ absurd (all_not _ w.if-not-this.false e)
    ] in
    record {
      within = t.within;
      room = wrote-length w.wrote;
      well = t.well;
      written = w;
      ends = k.ends ∙ end_next (units_in c.args.part) l.i s (not (eqb g.row.ALL 0)) on;
    }

pub returns : goal.returns
returns g c =
    let l = c.loop-i in
    let k = l.invariant in
    let last = end_last (not (eqb g.row.ALL 0)) (units_in c.args.part) l.i k.within (omega arith) in
    record { is = sym (k.ends ∙ last); within = k.within; well = k.well; written = k.written }
