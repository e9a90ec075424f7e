-- `words::set32` meets its contract: the first four of the bytes that the machine makes. Assumes nothing.
use mathlib.Core.Path.{◌∙◌, ap}
use native.Mathlib.Omega.{arith}
use lib.ListN.{take}
use Rattle.base.specs.Number.{le_bytes}
use Rattle.table.proofs.Stores.{machine_bytes, part-stored}
use Rattle.table.proofs.words.set32.Goals as goal

pub returns : goal.returns
unfolding le_bytes
returns c =
    let a = c.args in
    part-stored 4 a.w.now _ a.at _ a.v (c.copy_from_slice.ensures.after ∙ ap (take 4) (c.to_le_bytes.ensures ∙ machine_bytes 8 a.v)) (omega arith)
