-- `text_lower`: the rules where they answer, else the table. Assumes nothing.
use mathlib.Core.Path.{sym, ◌∙◌}
use Rattle.rules.specs.QuickLaws.{quick-some}
use Rattle.textapi.proofs.text_lower.Goals as goal

pub returns-in-Some : goal.returns-in-Some
returns-in-Some c = quick-some _ (sym c.in-Some.is ∙ c.lower_quick.ensures)
