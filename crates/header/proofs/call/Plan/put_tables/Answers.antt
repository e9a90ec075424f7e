-- `call::Plan::put_tables` meets its contract. Assumes nothing.
use mathlib.Core.Path.{ap}
use mathlib.Core.List.{◌++◌}
use native.Mathlib.Omega.{arith}
use lib.ListN.{length, length-append}
use Rattle.base.specs.Find.{flat}
use Rattle.base.specs.Number.{be_at, le_bytes}
use Rattle.base.specs.NumberLaws.{length-le_bytes}
use Rattle.base.specs.OutputLaws.{wrote-rest, wrote_as, next-room, front_fits}
use Rattle.base.specs.ReadingRows.{cells}
use Rattle.written.specs.HeaderBytes.{export_bytes}
use Rattle.header.specs.Places.{export_in}
use Rattle.header.proofs.Rooms.{hashes-there, exports-there, tables-made}
use Rattle.header.proofs.Slices.{hashes-in, exports-in}
use Rattle.header.proofs.call.Plan.put_tables.Goals as goal

pub overflow_mul-p : goal.overflow_mul-p
overflow_mul-p c = omega (arith, hashes-there c.args.self.now.s.now c.args.self.now.whole c.args.self.now.parts c.args.self.now.parts_are)

pub overflow_add-p : goal.overflow_add-p
overflow_add-p c = omega (arith, hashes-there c.args.self.now.s.now c.args.self.now.whole c.args.self.now.parts c.args.self.now.parts_are)

pub slice_bounds-put_hashes-end-2 : goal.slice_bounds-put_hashes-end-2
slice_bounds-put_hashes-end-2 c = hashes-there c.args.self.now.s.now c.args.self.now.whole c.args.self.now.parts c.args.self.now.parts_are

pub overflow_mul-p-2 : goal.overflow_mul-p-2
overflow_mul-p-2 c = omega (arith, exports-there c.args.self.now.s.now c.args.self.now.whole c.args.self.now.parts c.args.self.now.parts_are)

pub overflow_add-p-2 : goal.overflow_add-p-2
overflow_add-p-2 c = omega (arith, exports-there c.args.self.now.s.now c.args.self.now.whole c.args.self.now.parts c.args.self.now.parts_are)

pub slice_bounds-put_exports-end-2 : goal.slice_bounds-put_exports-end-2
slice_bounds-put_exports-end-2 c = exports-there c.args.self.now.s.now c.args.self.now.whole c.args.self.now.parts c.args.self.now.parts_are

pub put_le64-a-requires : goal.put_le64-a-requires
put_le64-a-requires c =
    let s = c.args.self.now.s.now in
    let p = c.args.self.now.parts in
    let h = flat (le_bytes 8) (cells (be_at 8 s) 8 p.hashes p.keys) in
    let x = flat export_bytes (cells (export_in s) 40 p.exports p.entries) in
    omega (
      arith,
      c.requires,
      ap length (tables-made s c.args.self.now.whole p c.args.self.now.parts_are),
      length-append (le_bytes 8 0 ++ h) x,
      length-append
          (le_bytes 8 0) h,
      length-le_bytes 8 0,
    )

pub put_hashes-requires : goal.put_hashes-requires
put_hashes-requires c =
    let s = c.args.self.now.s.now in
    let p = c.args.self.now.parts in
    let h = flat (le_bytes 8) (cells (be_at 8 s) 8 p.hashes p.keys) in
    let x = flat export_bytes (cells (export_in s) 40 p.exports p.entries) in
    rw (hashes-in s p.hashes p.keys (hashes-there s c.args.self.now.whole p c.args.self.now.parts_are))
    (next-room _ (le_bytes 8 0) h _ _ c.put_le64-a.ensures
    (front_fits (le_bytes 8 0 ++ h) x _ (omega (arith, c.requires, ap length (tables-made s c.args.self.now.whole p c.args.self.now.parts_are)))))

pub put_exports-requires : goal.put_exports-requires
put_exports-requires c =
    let s = c.args.self.now.s.now in
    let p = c.args.self.now.parts in
    let h = flat (le_bytes 8) (cells (be_at 8 s) 8 p.hashes p.keys) in
    let x = flat export_bytes (cells (export_in s) 40 p.exports p.entries) in
    let hs = hashes-in s p.hashes p.keys (hashes-there s c.args.self.now.whole p c.args.self.now.parts_are) in
    rw (exports-in s p.exports p.entries (exports-there s c.args.self.now.whole p c.args.self.now.parts_are))
    (next-room _ (le_bytes 8 0 ++ h) x _ _ (wrote-rest c.put_le64-a.ensures (wrote_as c.put_hashes.ensures (ap (flat (le_bytes 8)) hs)))
    (omega (arith, c.requires, ap length (tables-made s c.args.self.now.whole p c.args.self.now.parts_are))))

pub returns : goal.returns
returns c =
    let s = c.args.self.now.s.now in
    let p = c.args.self.now.parts in
    let hs = hashes-in s p.hashes p.keys (hashes-there s c.args.self.now.whole p c.args.self.now.parts_are) in
    let xs = exports-in s p.exports p.entries (exports-there s c.args.self.now.whole p c.args.self.now.parts_are) in
    wrote_as (wrote-rest (wrote-rest c.put_le64-a.ensures (wrote_as c.put_hashes.ensures (ap (flat (le_bytes 8)) hs)))
    (wrote_as c.put_exports.ensures (ap (flat export_bytes) xs)))
    (tables-made s c.args.self.now.whole p c.args.self.now.parts_are)
