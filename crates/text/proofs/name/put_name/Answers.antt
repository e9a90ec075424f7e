-- `text::name::put_name` meets its contract: the base, then the suffix. Assumes nothing.
use mathlib.Core.Path.{sym}
use native.Mathlib.Omega.{arith}
use Rattle.base.specs.OutputLaws.{wrote_as, wrote-rest, wrote-room}
use Rattle.text.specs.NameLaws.{rendered-bytes, rendered-length}
use Rattle.text.proofs.name.put_name.Goals as goal

pub put_base-at-requires : goal.put_base-at-requires
put_base-at-requires c =
    omega (arith, c.requires, rendered-length c.args.text.part.wide c.args.text.part.bytes.now c.args.number)

pub put_suffix-requires : goal.put_suffix-requires
put_suffix-requires c =
    wrote-room c.put_base-at.ensures _
    (omega (arith, c.requires, rendered-length c.args.text.part.wide c.args.text.part.bytes.now c.args.number))

pub returns : goal.returns
returns c =
    let a = c.args in
    wrote_as (wrote-rest c.put_base-at.ensures c.put_suffix.ensures)
    (sym (rendered-bytes a.text.part.wide a.text.part.bytes.now a.number))
