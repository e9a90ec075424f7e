-- `textapi::fine_text` meets its contract, by `is_fine`. Assumes nothing.
use mathlib.Core.Path.{refl, sym, ◌∙◌}
use Rattle.textapi.proofs.Fine.{fine-parts}
use Rattle.textapi.proofs.fine_text.Goals as goal

pub invariant_of-result-then-is_fine : goal.invariant_of-result-then-is_fine
invariant_of-result-then-is_fine c = record { well = (fine-parts _ _ (sym c.is_fine.ensures ∙ c.if-is_fine.true)).0 }

pub returns-then-is_fine : goal.returns-then-is_fine
returns-then-is_fine c = (sym c.is_fine.ensures ∙ c.if-is_fine.true, refl, refl)

pub returns : goal.returns
returns c = sym c.is_fine.ensures ∙ c.if-is_fine.false
