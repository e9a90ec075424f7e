-- `decode::write::put_latin1` meets its contract: what is kept of the bytes is the text. The loop's invariant: what is kept of the bytes before
-- place i is written. Assumes nothing.
use Rattle.std.proofs.Common.{◌≡◌, List, ℕ, ◌-◌, ◌≤◌, ◌<◌, ltb, length, set, take, get_or, arith, ltb-false, length-take-le, get_or-take}
use mir.Val.{bool_byte}
use Rattle.base.specs.OutputLaws.{wrote_as}
use Rattle.decode.proofs.NarrowLaws.{neither}
use Rattle.decode.specs.Tails.{Filling}
use Rattle.decode.proofs.TailsLaws.{filling_none, filling_room, filling-left, filling-part, filling-end}
use Rattle.decode.proofs.TailsLaws.{bytes_tailed, bytes-kept, kept-room, part-first}
use Rattle.decode.proofs.write.put_latin1.Goals.{Else-to-s}
use Rattle.decode.proofs.write.put_latin1.Goals as goal

-- the text has two bytes or more, and 33 follow it
far : (c : Else-to-s) → let a = c.args in (2 ≤ a.to) × (33 ≤ length a.s.now - a.to)
far c =
    let a = c.args in
    let e = neither (ltb a.to 2) (ltb (length a.s.now - a.to) 33) c.if-to-s.false in
    (ltb-false a.to 2 e.0, ltb-false (length a.s.now - a.to) 33 e.1)

-- its first byte is written
begun : (c : Else-to-s) → let a = c.args in
    Filling a.out.now 0 (take a.to a.s.now) (set a.out.now 0 (get_or a.s.now 0 0)) 1 (bool_byte (ltb (get_or a.s.now 0 0) 0xC0)) (get_or a.s.now 0 0)
begun c =
    part-first c.args.s.now c.args.to (omega (arith, (far c).0)) c.requires.0 c.requires.1 c.requires.2 c.args.out.now c.requires.3

pub put_each-requires : goal.put_each-requires
put_each-requires c = let p = c.requires in (bytes_tailed _ p.1, kept-room _ p.1 p.2 _ p.3)

pub returns-then-to-s : goal.returns-then-to-s
returns-then-to-s c = let p = c.requires in wrote_as c.put_each.ensures (bytes-kept _ p.1 p.2)

pub bounds-out-0 : goal.bounds-out-0
bounds-out-0 c =
    let s = take c.args.to c.args.s.now in
    let k = filling_none c.args.out.now 0 s (bytes_tailed s c.requires.1) (kept-room s c.requires.1 c.requires.2 _ c.requires.3) in
    omega (arith, filling_room k (omega (arith, (far (goal.at.bounds-out-0 c).Else-to-s).0, length-take-le c.args.to c.args.s.now c.requires.0)), k.room)

pub loop-i-init : goal.loop-i-init
loop-i-init c = (omega arith, omega (arith, (far (goal.at.loop-i-init c).Else-to-s).0), rw c.from-n.ensures (begun (goal.at.loop-i-init c).Else-to-s))

pub put_pairs-n-requires : goal.put_pairs-n-requires
put_pairs-n-requires c =
    let f = far (goal.at.put_pairs-n-requires c).Else-to-s in
    let k = c.loop-i.invariant.2 in
    (omega arith, omega arith, omega arith, omega (arith, f.1), k.ends, filling-left k)

pub overflow_add-n : goal.overflow_add-n
overflow_add-n c =
    let k = filling-part c.loop-i.invariant.2 c.put_pairs-n.ensures in
    omega (arith, k.size, k.room)

pub loop-i-preserved : goal.loop-i-preserved
loop-i-preserved c = (omega arith, omega arith, filling-part c.loop-i.invariant.2 c.put_pairs-n.ensures)

-- the byte before a place is the text's too
before : (s : List ℕ) (to i : ℕ) → 0 < i → i < to → get_or (take to s) (i - 1) 0 ≡ get_or s (i - 1) 0
before s to i h l = get_or-take to s (i - 1) 0 (omega arith)

pub put_last-requires : goal.put_last-requires
put_last-requires c =
    let l = c.loop-i in
    let k = l.invariant.2 in
    let n = length-take-le c.args.to c.args.s.now c.requires.0 in
    let e = before c.args.s.now c.args.to l.i l.invariant.0 l.invariant.1 in
    (omega arith, omega (arith, n), omega (arith, n), rw e k.ends, rw e (filling-left k))

pub returns : goal.returns
returns c =
    let p = c.requires in
    let l = c.loop-i in
    let e = before c.args.s.now c.args.to l.i l.invariant.0 l.invariant.1 in
    wrote_as (filling-end l.invariant.2 (rw e at c.put_last.ensures)) (bytes-kept _ p.1 p.2)
