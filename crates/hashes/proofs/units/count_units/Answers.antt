-- `units::count_units` meets its contract. The loop's invariant: the names of the objects passed are counted. Assumes nothing.
use mathlib.Core.Path.{sym, ap}
use native.Mathlib.Omega.{arith}
use lib.ListN.{length}
use Rattle.hashes.specs.PieceLaws.{pieces_none, count_next}
use Rattle.hashes.proofs.units.count_units.Goals as goal

pub loop-u-init : goal.loop-u-init
loop-u-init c = (omega arith, λ b y d. sym (ap length (pieces_none b c.args.chain.now)))

pub piece_count-total-requires : goal.piece_count-total-requires
piece_count-total-requires c = c.requires.1 c.loop-u.u-index (omega arith)

pub loop-u-preserved : goal.loop-u-preserved
loop-u-preserved c =
    let l = c.loop-u in
    let a = c.args in (
      omega arith,
      λ b y d.
          count_next y a.chain.now l.u-index (d.holds l.u-index (omega arith)) l.total _ (l.invariant.1 b y d) c.piece_count-total.ensures.0,
    )
