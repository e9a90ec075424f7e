-- `greek_step`: one step for each range. Assumes nothing.
use native.Mathlib.Omega.{arith}
use Rattle.lower.proofs.Within.{cmp-le, cmp-lt}
use Rattle.rules.specs.Scripts.{step_in, greek_steps}
use Rattle.rules.proofs.scripts.greek_step.Goals as goal

pub returns : goal.returns
unfolding step_in greek_steps
returns c = (
  omega (
    arith,
    simp (cmp-le, cmp-lt) at (rw c.contains.ensures.value at c.pick.ensures.0),
    simp (cmp-le, cmp-lt) at (rw c.contains-2.ensures.value at c.pick-2.ensures.0),
    simp (cmp-le, cmp-lt) at (rw c.contains-3.ensures.value at c.pick-3.ensures.0),
    simp (cmp-le, cmp-lt) at (rw c.contains-4.ensures.value at c.pick-4.ensures.0),
    simp (cmp-le, cmp-lt) at (rw c.contains-5.ensures.value at c.pick-5.ensures.0),
  ),
  omega arith,
)
