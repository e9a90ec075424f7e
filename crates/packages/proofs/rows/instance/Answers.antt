-- `packages::rows::instance` meets its contract. Assumes nothing.
use mathlib.Core.Path.{refl}
use Rattle.batch.specs.Holds.{place_without}
use Rattle.packages.specs.Row.{instance_place}
use Rattle.packages.proofs.rows.instance.Goals as goal

pub returns-then-is_variable : goal.returns-then-is_variable
unfolding instance_place place_without
returns-then-is_variable c = (rw (← c.is_variable.ensures, c.if-is_variable.true) c.place_without.ensures, refl)

pub returns : goal.returns
unfolding instance_place
returns c = (rw (← c.is_variable.ensures, c.if-is_variable.false), refl)
