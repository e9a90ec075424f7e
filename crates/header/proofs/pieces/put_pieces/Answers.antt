-- `pieces::put_pieces` meets its contract. The loop's invariant: i pieces are written. Assumes nothing.
use mathlib.Core.Path.{sym}
use native.Mathlib.Omega.{arith}
use lib.ListN.{length}
use Rattle.base.specs.OutputLaws.{wrote_none, wrote-rest, wrote-room, wrote_as}
use Rattle.header.specs.Pieces.{pieces}
use Rattle.header.specs.PiecesLaws.{piece-next, piece-room}
use Rattle.header.proofs.pieces.put_pieces.Goals as goal

pub loop-i-init : goal.loop-i-init
unfolding pieces
loop-i-init g c = λ b p. wrote_none _

pub put-n-requires : goal.put-n-requires
put-n-requires g c =
    let l = c.loop-i in
    let (b, p, room) = c.requires in
    let w = l.invariant b p in
    p.may _ l.i c.loop-i-test.true (wrote-room w (length (b l.i)) (omega (arith, w.size, piece-room b l.i c.args.count c.loop-i-test.true)))

pub loop-i-preserved : goal.loop-i-preserved
loop-i-preserved g c =
    let l = c.loop-i in
    λ b p. wrote_as (wrote-rest (l.invariant b p) (p.wrote _ _ l.i _ c.loop-i-test.true c.put-n.ensures)) (sym (piece-next b l.i))
