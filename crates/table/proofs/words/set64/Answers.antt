-- `words::set64` meets its contract: the bytes that the machine makes. Assumes nothing.
use mathlib.Core.Path.{◌∙◌}
use native.Mathlib.Omega.{arith}
use Rattle.table.proofs.Stores.{machine_bytes, part-stored}
use Rattle.table.proofs.words.set64.Goals as goal

pub returns : goal.returns
returns c =
    let a = c.args in
    part-stored 8 a.w.now _ a.at _ a.v (c.copy_from_slice.ensures.after ∙ (c.to_le_bytes.ensures ∙ machine_bytes 8 a.v)) (omega arith)
