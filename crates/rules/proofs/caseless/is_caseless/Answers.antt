-- `is_caseless`: one test for each range. Assumes nothing.
use Rattle.lower.proofs.Within.{cmp-le, cmp-lt}
use Rattle.rules.specs.Caseless.{caseless}
use Rattle.rules.proofs.caseless.is_caseless.Goals as goal

pub returns : goal.returns
unfolding caseless
returns c = rw (c.contains.ensures.value, c.contains-2.ensures.value, c.contains-3.ensures.value) (simp (cmp-le, cmp-lt))
