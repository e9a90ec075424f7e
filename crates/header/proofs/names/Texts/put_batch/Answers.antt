-- `names::Texts::put_batch` meets its contract. Assumes nothing.
use mathlib.Core.Path.{sym, ap}
use native.Mathlib.Omega.{arith}
use lib.ListN.{length, length-append}
use Rattle.base.specs.NumberLaws.{length-le_bytes}
use Rattle.base.specs.OutputLaws.{wrote-rest, wrote_as, next-room}
use Rattle.header.specs.Places.{texts_from}
use Rattle.header.specs.Parts.{front_bytes, names_bytes}
use Rattle.header.specs.WritingLaws.{batch-none, batch-made, front_length}
use Rattle.header.proofs.names.Texts.put_batch.Goals as goal

pub put_le32-requires : goal.put_le32-requires
put_le32-requires c =
    let a = c.args in
    omega (arith, c.requires.3, ap length (batch-none a.self.more a.self.s.now a.self.from a.self.count c.if-self-eq0.true), length-le_bytes 4 0)

pub returns-then-self-eq0 : goal.returns-then-self-eq0
returns-then-self-eq0 c =
    let a = c.args in
    wrote_as c.put_le32.ensures (sym (batch-none a.self.more a.self.s.now a.self.from a.self.count
    c.if-self-eq0.true))

pub put_front-a-requires : goal.put_front-a-requires
put_front-a-requires c =
    let a = c.args in
    let names = names_bytes (texts_from a.self.more a.self.s.now a.self.from a.self.count) in
    let e = batch-made a.self.more a.self.s.now a.self.from a.self.count c.args.strings c.requires.2 c.if-self-eq0.false in
    omega (arith, c.requires.3, ap length e, length-append (front_bytes a.self.count c.args.strings) names, front_length a.self.count c.args.strings)

pub put_names-requires : goal.put_names-requires
put_names-requires c =
    let a = c.args in
    let names = names_bytes (texts_from a.self.more a.self.s.now a.self.from a.self.count) in
    let e = batch-made a.self.more a.self.s.now a.self.from a.self.count c.args.strings c.requires.2 c.if-self-eq0.false in (
      c.requires.0,
      next-room _ (front_bytes a.self.count c.args.strings) names _ _ c.put_front-a.ensures (omega (arith, c.requires.3, ap length e)),
    )

pub returns : goal.returns
returns c =
    let a = c.args in
    wrote_as (wrote-rest c.put_front-a.ensures c.put_names.ensures)
    (batch-made a.self.more a.self.s.now a.self.from a.self.count c.args.strings c.requires.2
    c.if-self-eq0.false)
