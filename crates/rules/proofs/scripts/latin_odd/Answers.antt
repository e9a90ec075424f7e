-- `latin_odd`: one test for each range. Assumes nothing.
use Rattle.std.proofs.Math.Bool.{or_assoc, or-false}
use Rattle.lower.proofs.Within.{cmp-le, cmp-lt}
use Rattle.rules.specs.Quick.{among}
use Rattle.rules.specs.Scripts.{latin_odds}
use Rattle.rules.proofs.scripts.latin_odd.Goals as goal

pub returns : goal.returns
unfolding among latin_odds
returns c =
    rw (
      c.contains.ensures.value,
      c.contains-2.ensures.value,
      c.contains-3.ensures.value,
      c.contains-4.ensures.value,
    )
    (simp (cmp-le, cmp-lt, or_assoc, or-false))
