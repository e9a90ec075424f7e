-- `entries::add` meets its contract. Assumes nothing.
use mathlib.Core.Path.{ap}
use native.Mathlib.Omega.{arith}
use Rattle.base.specs.OneMore.{one_more}
use Rattle.table.specs.TableLaws.{ended-find}
use Rattle.table.proofs.Attached.{ended-room, added}
use Rattle.table.proofs.entries.add.Goals as goal

pub attach-requires : goal.attach-requires
attach-requires c =
    let l = c.requires.linked in
    let r = ended-room l.holds c.requires.n_nonzero.0 (c.search-s.ensures c.args.k l.lo l.hi l.holds) in
    let w = l.holds.wide in
    (omega arith, omega arith)

pub returns-then-is_none-clause-found : goal.returns-then-is_none-clause-found
returns-then-is_none-clause-found c = λ los his t.
    let a = c.args in ended-find t a.lo a.hi c.ranges.lo.fits c.ranges.hi.fits c.requires.n_nonzero.0 (c.search-s.ensures a.k los his t)

pub returns-then-is_none-clause-added : goal.returns-then-is_none-clause-added
returns-then-is_none-clause-added c = λ z.
    let a = c.args in
    added a.n a.stride a.k a.lo a.hi a.w.now c.requires.n_nonzero.0 c.requires.n_nonzero.1 c.requires.n_nonzero.2
    c.ranges.lo.fits c.ranges.hi.fits _ _ (ap one_more z) c.requires.linked c.search-s.ensures _ _ c.record_at.ensures c.attach.ensures

pub returns-else-is_none-clause-found : goal.returns-else-is_none-clause-found
returns-else-is_none-clause-found c = λ los his t.
    let a = c.args in ended-find t a.lo a.hi c.ranges.lo.fits c.ranges.hi.fits c.requires.n_nonzero.0 (c.search-s.ensures a.k los his t)
