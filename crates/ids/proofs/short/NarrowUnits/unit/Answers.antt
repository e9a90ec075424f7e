-- `short::Narrow::unit`: of the base, lowered, or of the suffix. Assumes nothing.
use mathlib.Core.Path.{sym, ◌∙◌, ap}
use Prim.Native.Nat.{ℕ, ◌-◌}
use native.Mathlib.Omega.{arith}
use lib.ListN.{length, get_or}
use Rattle.lower.specs.Lower.{lower}
use Rattle.lower.proofs.LowerLaws.{lower-single}
use Rattle.ids.proofs.ShortUnits.{narrow-length, unit-first, unit-rest}
use Rattle.ids.proofs.short.NarrowUnits.unit.Goals as goal

pub returns-then-i-self : goal.returns-then-i-self
returns-then-i-self c =
    let s = c.args.self in
    let e = c.lower_latin1.ensures ∙ ap lower c.from.ensures in
    let l = unit-first s.base.now s.suffix.now c.args.i c.if-i-self.true in
    (e ∙ sym l, rw e (lower-single (get_or s.base.now c.args.i 0) (omega (arith, s.fits.0 c.args.i))))

pub bounds-self-i-2 : goal.bounds-self-i-2
bounds-self-i-2 c = omega (arith, narrow-length c.args.self.base.now c.args.self.suffix.now)

pub returns : goal.returns
returns c =
    let s = c.args.self in
    let i : ℕ = c.args.i - length s.base.now in
    let e = c.from-2.ensures in
    (e ∙ sym (unit-rest s.base.now s.suffix.now c.args.i c.if-i-self.false), omega (arith, s.fits.1 i))
