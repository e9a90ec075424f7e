-- `lower_greek_unit`: the sum of both steps. Assumes nothing.
use mathlib.Core.Path.{◌≡◌}
use Prim.Native.Nat.{◌+◌, ◌<◌}
use native.Mathlib.Omega.{arith}
use Rattle.rules.specs.Scripts.{lower_greek}
use Rattle.rules.specs.ScriptLaws.{greek_unit}
use Rattle.rules.proofs.scripts.lower_greek_unit.Goals.{After-greek_step}
use Rattle.rules.proofs.scripts.lower_greek_unit.Goals as goal

sum : (c : After-greek_step) → c.args.u + (c.pick.result + c.greek_step.result) ≡ lower_greek c.args.u
unfolding lower_greek
sum c = rw (c.greek_step.ensures.0, c.pick.ensures.0, c.greek_capital.ensures)

unit : (c : After-greek_step) → lower_greek c.args.u < 65536
unit c = greek_unit _ c.ranges.u.fits

pub overflow_add-result : goal.overflow_add-result
overflow_add-result c = record { fits = omega (arith, sum (goal.at.overflow_add-result c).After-greek_step, unit (goal.at.overflow_add-result c).After-greek_step) }

pub returns : goal.returns
returns c = (sum (goal.at.returns c).After-greek_step, omega (arith, sum (goal.at.returns c).After-greek_step, unit (goal.at.returns c).After-greek_step))
