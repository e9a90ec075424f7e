-- `text::Part::unit` meets its contract: unit i of wide text is the number of the bytes 2 * i and 2 * i + 1.
use Prim.Native.Nat.{◌*◌, ◌+◌, ◌≤◌}
use mathlib.Core.Path.{sym, ◌∙◌}
use native.Mathlib.Omega.{arith}
use lib.ListN.{length}
use Rattle.text.specs.UnitsLaws.{units_of-narrow, units_of-length, units_of-at}
use Rattle.text.proofs.text.Part.unit.Goals.{Then-self}
use Rattle.text.proofs.text.Part.unit.Goals as goal

-- the bytes of a unit of wide text are there
room : (c : Then-self) → 2 * c.args.i + 2 ≤ length c.args.self.bytes.now
room c = omega (arith, rw (c.if-self.true, units_of-length) at c.requires)

pub overflow_mul-i : goal.overflow_mul-i
overflow_mul-i c = omega (arith, room (goal.at.overflow_mul-i c).Then-self)

pub le16-requires : goal.le16-requires
le16-requires c = room (goal.at.le16-requires c).Then-self

pub returns-then-self : goal.returns-then-self
returns-then-self c =
    let a = c.args in
    (rw (c.from.ensures, c.if-self.true) (c.le16.ensures ∙ sym (units_of-at a.self.bytes.now a.i (room (goal.at.returns-then-self c).Then-self))), omega arith)

pub bounds-self-i : goal.bounds-self-i
bounds-self-i c = rw (c.if-self.false, units_of-narrow) at c.requires

pub returns : goal.returns
returns c = (rw (c.from-2.ensures, c.if-self.false, units_of-narrow), omega arith)
