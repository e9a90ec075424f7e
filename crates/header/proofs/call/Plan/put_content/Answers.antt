-- `call::Plan::put_content` meets its contract. Assumes nothing.
use mathlib.Core.Path.{ap}
use mathlib.Core.List.{◌++◌}
use native.Mathlib.Omega.{arith}
use lib.ListN.{length}
use Rattle.base.specs.OutputLaws.{wrote-rest, wrote_as, next-room, front_fits}
use Rattle.written.specs.BatchBytes.{batch_bytes}
use Rattle.written.specs.HeaderBytes.{imported_bytes}
use Rattle.header.specs.Places.{texts_from, description_at}
use Rattle.header.specs.Parts.{tables_bytes}
use Rattle.header.proofs.Rooms.{texts-batch, content-made}
use Rattle.header.proofs.call.Plan.put_content.Goals as goal

pub put_batch-a-requires : goal.put_batch-a-requires
put_batch-a-requires c =
    let s = c.args.self.now.s.now in
    let p = c.args.self.now.parts in
    let d = description_at s in
    let b = texts-batch s c.args.self.now.whole p c.args.self.now.parts_are in
    let names = batch_bytes (texts_from 0 s 17 p.texts) in (
      b.few,
      b.short,
      b.is,
      front_fits names (tables_bytes d) _
          (front_fits (names ++ tables_bytes d) (imported_bytes d.imported) _ (omega (
            arith,
            c.requires,
            ap length (content-made s c.args.self.now.whole p
                c.args.self.now.parts_are),
          ))),
    )

pub put_tables-requires : goal.put_tables-requires
put_tables-requires c =
    let s = c.args.self.now.s.now in
    let p = c.args.self.now.parts in
    let d = description_at s in
    let names = batch_bytes (texts_from 0 s 17 p.texts) in
    next-room _ names (tables_bytes d) _ _ c.put_batch-a.ensures
    (front_fits (names ++ tables_bytes d) (imported_bytes d.imported) _ (omega (
      arith,
      c.requires,
      ap length (content-made s c.args.self.now.whole p
          c.args.self.now.parts_are),
    )))

pub put_imported-requires : goal.put_imported-requires
put_imported-requires c =
    let s = c.args.self.now.s.now in
    let p = c.args.self.now.parts in
    let d = description_at s in
    let names = batch_bytes (texts_from 0 s 17 p.texts) in
    next-room _ (names ++ tables_bytes d) (imported_bytes d.imported) _ _ (wrote-rest
    c.put_batch-a.ensures c.put_tables.ensures)
    (omega (arith, c.requires, ap length (content-made s c.args.self.now.whole p c.args.self.now.parts_are)))

pub returns : goal.returns
returns c =
    wrote_as (wrote-rest (wrote-rest c.put_batch-a.ensures
    c.put_tables.ensures) c.put_imported.ensures)
    (content-made c.args.self.now.s.now c.args.self.now.whole c.args.self.now.parts c.args.self.now.parts_are)

pub invariant_of-texts : goal.invariant_of-texts
invariant_of-texts c =
    let b = texts-batch c.args.self.now.s.now c.args.self.now.whole c.args.self.now.parts c.args.self.now.parts_are in
    record { fit = b.fits }
