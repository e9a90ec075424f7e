-- `utf16::is_text` meets its contract: a text with no surrogate is one. Assumes nothing.
use mathlib.Core.Path.{sym, ◌∙◌}
use Rattle.text.specs.UnitsLaws.{latin1-well}
use Rattle.text.specs.UnitLengthLaws.{single-text}
use Rattle.text.proofs.utf16.is_text.Goals as goal

pub returns-then-not-part : goal.returns-then-not-part
returns-then-not-part c = rw (c.if-not-part.true) (sym (latin1-well _))

pub returns-then-all_single : goal.returns-then-all_single
returns-then-all_single c =
    let a = c.args in
    rw (c.if-not-part.false) (sym (single-text a.part.bytes.now (sym c.all_single.ensures ∙ c.if-all_single.true)))
