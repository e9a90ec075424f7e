-- `call::Plan::put_imported` meets its contract. Assumes nothing.
use mathlib.Core.Path.{refl, ap}
use native.Mathlib.Omega.{arith}
use lib.ListN.{length, length-append}
use Rattle.base.specs.Find.{flat}
use Rattle.base.specs.OutputLaws.{wrote-rest, wrote_as, next-room}
use Rattle.written.specs.BatchBytes.{batch_bytes}
use Rattle.header.specs.Places.{texts_from, imported_from}
use Rattle.header.specs.RegionLaws.{number_bytes}
use Rattle.header.proofs.Rooms.{names-batch, imported-made}
use Rattle.header.proofs.call.Plan.put_imported.Goals as goal

pub put_batch-a-requires : goal.put_batch-a-requires
put_batch-a-requires c =
    let s = c.args.self.now.s.now in
    let p = c.args.self.now.parts in
    let b = names-batch s c.args.self.now.whole p c.args.self.now.parts_are in
    let names = batch_bytes (texts_from 4 s p.imported p.names) in (
      b.few,
      b.short,
      b.is,
      omega (
        arith,
        c.requires,
        ap length (imported-made s c.args.self.now.whole p c.args.self.now.parts_are),
        length-append names (flat number_bytes (imported_from s p.imported p.names)),
      ),
    )

pub put_numbers-requires : goal.put_numbers-requires
put_numbers-requires c =
    let s = c.args.self.now.s.now in
    let p = c.args.self.now.parts in
    let names = batch_bytes (texts_from 4 s p.imported p.names) in (
      refl,
      next-room _ names (flat number_bytes (imported_from s p.imported p.names)) _ _ c.put_batch-a.ensures
          (omega (arith, c.requires, ap length (imported-made s c.args.self.now.whole p c.args.self.now.parts_are))),
    )

pub returns : goal.returns
returns c =
    wrote_as (wrote-rest c.put_batch-a.ensures c.put_numbers.ensures) (imported-made
    c.args.self.now.s.now c.args.self.now.whole c.args.self.now.parts c.args.self.now.parts_are)

pub invariant_of-names : goal.invariant_of-names
invariant_of-names c =
    let b = names-batch c.args.self.now.s.now c.args.self.now.whole c.args.self.now.parts c.args.self.now.parts_are in
    record { fit = b.fits }
