-- `text::plain::name_len` meets its contract. Assumes nothing.
use native.Mathlib.Omega.{arith}
use Rattle.text.specs.NameLaws.{rendered-length}
use Rattle.text.proofs.plain.name_len.Goals as goal

pub returns : goal.returns
returns c =
    let a = c.args in
    omega (arith, rendered-length a.text.part.wide a.text.part.bytes.now a.number)
