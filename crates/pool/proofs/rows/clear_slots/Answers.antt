-- `rows::clear_slots` meets its contract. Assumes nothing.
use Rattle.pool.specs.PoolLaws.{slots_cleared}
use Rattle.pool.proofs.rows.clear_slots.Goals as goal

pub returns : goal.returns
returns c =
    let p = c.args.p.now in
    slots_cleared _ p.rows p.slots c.args.w.now p.few.1 c.requires c.clear.ensures
