-- `textapi::is_fine` meets its contract, by the test of the length. Assumes nothing.
use mathlib.Core.Path.{◌∙◌}
use borrow.Author.Tests.{le-ltb}
use Rattle.textapi.proofs.Fine.{fine-short, fine-long}
use Rattle.textapi.proofs.is_fine.Goals as goal

pub returns-then-bytes-lt4294967296 : goal.returns-then-bytes-lt4294967296
returns-then-bytes-lt4294967296 c = c.is_text.ensures ∙ fine-short _ _ c.if-bytes-lt4294967296.true

pub returns-else-bytes-lt4294967296 : goal.returns-else-bytes-lt4294967296
returns-else-bytes-lt4294967296 c = le-ltb _ _ c.if-bytes-lt4294967296.false ∙ fine-long _ _ c.if-bytes-lt4294967296.false
