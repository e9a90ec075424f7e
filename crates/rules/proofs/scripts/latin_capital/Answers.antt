-- `latin_capital`: one test for each range. Assumes nothing.
use Rattle.std.proofs.Math.Bool.{or_assoc, or-false}
use Rattle.lower.proofs.Within.{cmp-le, cmp-lt}
use Rattle.rules.specs.Quick.{among}
use Rattle.rules.specs.Scripts.{latin_capitals}
use Rattle.rules.proofs.scripts.latin_capital.Goals as goal

pub returns : goal.returns
unfolding among latin_capitals
returns c = rw (c.contains.ensures.value, c.contains-2.ensures.value, c.contains-3.ensures.value) (simp (cmp-le, cmp-lt, or_assoc, or-false))
