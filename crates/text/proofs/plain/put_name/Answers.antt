-- `plain::put_name` meets its contract: what is copied, then the suffix, and over what is not the rendered name. Assumes nothing.
use mathlib.Core.Path.{sym}
use native.Mathlib.Omega.{arith}
use Rattle.base.specs.OutputLaws.{wrote_as, wrote-rest, wrote-room}
use Rattle.text.specs.NameLaws.{rendered-bytes, rendered-length}
use Rattle.text.specs.PlainLaws.{copied_base, copied_then}
use Rattle.text.proofs.plain.put_name.Goals as goal

pub put_copy-requires : goal.put_copy-requires
put_copy-requires c =
    omega (arith, c.requires, rendered-length c.args.text.part.wide c.args.text.part.bytes.now c.args.number)

pub put_suffix-requires : goal.put_suffix-requires
put_suffix-requires c =
    let w = copied_base c.args.text.part.bytes.now c.put_copy.ensures c.if-put_copy.true in
    wrote-room w _ (omega (arith, c.requires, w.size, rendered-length c.args.text.part.wide c.args.text.part.bytes.now c.args.number))

pub returns-then-put_copy : goal.returns-then-put_copy
returns-then-put_copy c =
    let a = c.args in
    wrote_as (wrote-rest (copied_base a.text.part.bytes.now c.put_copy.ensures c.if-put_copy.true) c.put_suffix.ensures)
    (sym (rendered-bytes a.text.part.wide a.text.part.bytes.now a.number))

pub returns : goal.returns
returns c =
    let a = c.args in
    copied_then a.text.part.bytes.now c.put_copy.ensures c.put_name.ensures (omega (arith, rendered-length a.text.part.wide a.text.part.bytes.now a.number))
