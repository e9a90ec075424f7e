-- `text::Part::count` meets its contract: wide text has two bytes to a unit.
use mathlib.Core.Path.{sym}
use Rattle.text.specs.UnitsLaws.{units_of-narrow, units_of-length}
use Rattle.text.proofs.text.Part.count.Goals as goal

pub returns-then-self : goal.returns-then-self
returns-then-self c = rw c.if-self.true (sym (units_of-length c.args.self.bytes.now))

pub returns : goal.returns
returns c = rw (c.if-self.false, units_of-narrow)
