-- `short::lower_latin1`: below U+00C0 only A to Z are lowered. Assumes nothing.
use mathlib.Core.Path.{sym, ◌∙◌}
use native.Mathlib.Omega.{arith}
use Rattle.rules.specs.LatinLaws.{lower_ascii_lem}
use Rattle.ids.proofs.short.lower_latin1.Goals as goal

pub returns-then-c-lt128 : goal.returns-then-c-lt128
returns-then-c-lt128 c = c.lower_ascii.ensures ∙ sym (lower_ascii_lem c.args.c (omega arith))
