-- `tails::put_last` meets its contract: a byte more, or two. Assumes nothing.
use Rattle.std.proofs.Common.{arith, length-set, length-drop}
use Rattle.decode.proofs.TailsLaws.{left-room, left-first, left-next, next-room, filling_all}
use Rattle.decode.proofs.tails.put_last.Goals as goal

pub bounds-out-0 : goal.bounds-out-0
bounds-out-0 c = let p = c.requires in left-room _ c.args.s.now c.args.i _ p.3 p.4 p.1

pub bounds-out-n : goal.bounds-out-n
bounds-out-n c = let p = c.requires in rw c.from-n.ensures (simp length-set (omega (arith, next-room _ c.args.s.now c.args.i _ p.3 p.4 p.1 (omega arith))))

pub returns-then-s-i-lt2 : goal.returns-then-s-i-lt2
returns-then-s-i-lt2 c =
    let p = c.requires in
    rw (c.raised.ensures, c.from-n.ensures) (filling_all (left-first _ c.args.s.now c.args.i _ p.3 p.4 p.1) (simp length-drop (omega arith)))

pub returns : goal.returns
returns c =
    let p = c.requires in
    rw (c.raised.ensures, c.raised-2.ensures, c.from-n.ensures, c.from.ensures)
    (filling_all (left-next _ c.args.s.now c.args.i _ p.3 p.4 p.1 (omega arith)) (simp length-drop (omega arith)))
