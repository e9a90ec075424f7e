-- `rows::pool_texts` meets its contract: with its slots set to 0 the buffer is resolved as before. Assumes nothing.
use mathlib.Core.Path.{◌≡◌, ap}
use Prim.Native.Nat.{◌+◌, ◌*◌}
use native.Mathlib.Omega.{arith}
use lib.ListN.{length}
use Rattle.resolve.specs.MarkLaws.{marks_then}
use Rattle.pool.specs.PoolLaws.{left-resolved, left-marks}
use Rattle.pool.proofs.rows.pool_texts.Goals as goal

pub pool_rows-requires : goal.pool_rows-requires
pool_rows-requires c =
    let r = c.requires in
    let p = c.of-p.result in
    let e = c.of-p.ensures in
    let l = rw e.4 at c.clear_slots.ensures in
    let start : p.gap ≡ 64 * (c.args.n + length r.table) = omega (arith, p.behind, e.2, e.3, r.classes-are) in
    rw (ap (λ x. x.now) e.0, ap (λ x. x.now) e.1, e.2, e.3, e.4) (record {
      objects = r.objects;
      table = r.table;
      lookups = r.lookups;
      refs = r.refs;
      holds = left-resolved r.holds start r.rows_are (omega (arith, start, r.classes-are, r.room)) l;
      classes-are = r.classes-are;
      rows_are = r.rows_are;
      room = omega (arith, r.room, l.kept.size);
    })

pub returns-clause-is : goal.returns-clause-is
returns-clause-is c = λ o xs lookups refs t x y.
    let p = c.of-p.result in
    let e = c.of-p.ensures in
    let l = rw e.4 at c.clear_slots.ensures in
    let start : p.gap ≡ 64 * (c.args.n + length xs) = omega (arith, p.behind, e.2, e.3, x) in
    (rw (ap (λ x. x.now) e.0, ap (λ x. x.now) e.1, e.2, e.3, e.4, e.5) at c.pool_rows.ensures.is) o xs lookups refs
    (left-resolved t start y (omega (arith, start, x, c.requires.room)) l) x y

pub returns-clause-marks : goal.returns-clause-marks
returns-clause-marks c =
    let p = c.of-p.result in
    let e = c.of-p.ensures in
    let l = rw e.4 at c.clear_slots.ensures in
    marks_then (left-marks c.args.n l (omega (arith, c.requires.room))) (rw (e.2, e.4) at c.pool_rows.ensures.marks)
