-- `lower_latin`: by range. Assumes nothing.
use mathlib.Core.Path.{sym, ◌∙◌}
use native.Mathlib.Omega.{arith}
use Rattle.rules.specs.LatinLaws.{lower_ascii_lem}
use Rattle.rules.proofs.latin.lower_latin.Goals as goal

pub returns-in-0-to-191 : goal.returns-in-0-to-191
returns-in-0-to-191 c = c.lower_ascii.ensures ∙ sym (lower_ascii_lem _ (omega arith))
