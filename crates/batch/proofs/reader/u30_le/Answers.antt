-- `batch::reader::u30_le` meets its contract.
use mathlib.Core.Path.{sym, ap, ◌∙◌}
use native.Mathlib.Omega.{arith}
use Rattle.base.specs.Index.{name_index}
use Rattle.batch.specs.Field.{low30-is}
use Rattle.batch.proofs.reader.u30_le.Goals as goal

pub returns : goal.returns
returns c =
    let a = c.args in (
      c.name_index.ensures ∙ ap name_index c.le32.ensures
          ∙ sym (low30-is a.s.now a.at (λ i. (c.type_inv.s i).fits) c.requires),
      omega arith,
    )
