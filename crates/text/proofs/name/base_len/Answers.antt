-- `name::base_len` meets its contract: the base takes the bytes that its units take. Assumes nothing.
use mathlib.Core.Path.{sym, ◌∙◌}
use native.Mathlib.Omega.{arith}
use Rattle.text.specs.UnitLengthLaws.{base-bytes}
use Rattle.text.proofs.name.base_len.Goals as goal

pub returns : goal.returns
returns c =
    let t = c.args.text in
    (c.units_len.ensures.0 ∙ sym (base-bytes t.part.wide t.part.bytes.now t.part.fits t.well), omega arith)
