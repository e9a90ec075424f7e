-- `lower_latin_unit`: the sum of both steps. Assumes nothing.
use mathlib.Core.Path.{◌≡◌}
use mathlib.Core.Bool.{Bool, cond}
use Prim.Native.Nat.{ℕ, ◌+◌, ◌<◌}
use native.Mathlib.Omega.{arith}
use Rattle.rules.specs.Quick.{among}
use Rattle.rules.specs.Scripts.{latin_capitals, latin_pairs, latin_turn, lower_latin}
use Rattle.rules.specs.ScriptLaws.{latin-unit}
use Rattle.rules.proofs.scripts.lower_latin_unit.Goals.{After-pick-2}
use Rattle.rules.proofs.scripts.lower_latin_unit.Goals as goal

steps : (u : ℕ) {p q e : ℕ} {t s : Bool} → t ≡ among latin_capitals u → p ≡ cond t 32 0 → s ≡ among latin_pairs u → e ≡ latin_turn u → q ≡ cond s e 0
    → u + (p + q) ≡ lower_latin u
unfolding lower_latin
steps u a b c d e = rw (e, d, c, b, a)

sum : (c : After-pick-2) → c.args.u + (c.pick.result + c.pick-2.result)
    ≡ lower_latin c.args.u
sum c =
    steps _ c.latin_capital.ensures c.pick.ensures.0
    c.latin_pair.ensures c.latin_turn.ensures.0 c.pick-2.ensures.0

unit : (c : After-pick-2) → lower_latin c.args.u < 65536
unit c = latin-unit _ c.ranges.u.fits

pub overflow_add-result : goal.overflow_add-result
overflow_add-result c = record { fits = omega (arith, sum (goal.at.overflow_add-result c).After-pick-2, unit (goal.at.overflow_add-result c).After-pick-2) }

pub returns : goal.returns
returns c = (sum (goal.at.returns c).After-pick-2, omega (arith, sum (goal.at.returns c).After-pick-2, unit (goal.at.returns c).After-pick-2))
