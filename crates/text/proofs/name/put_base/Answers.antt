-- `text::name::put_base` meets its contract. The loop's invariant: what of the base is not written yet are the bytes of the units
-- from i on, which are well-formed. The measure is the units left. Assumes nothing.
use mathlib.Core.Path.{sym}
use native.Mathlib.Omega.{arith}
use Rattle.text.proofs.NameLoop.{first-well, first-bytes, held_none, held-rest, held-passed, held_all}
use Rattle.text.proofs.name.put_base.Goals as goal

pub loop-i-init : goal.loop-i-init
loop-i-init c =
    let t = c.args.text in
    let p = t.part in
    (omega arith, omega arith, first-well p.wide p.bytes.now p.fits t.well, held_none (sym (first-bytes p.wide p.bytes.now p.fits)))

pub loop-i-preserved : goal.loop-i-preserved
loop-i-preserved c =
    let t = c.put_turn-r.ensures in
    let w = held-rest c.loop-i.invariant.3 c.requires t.held in
    (t.within, w.size, t.well, w)

pub returns : goal.returns
returns c =
    let h = c.requires in
    held_all (held-rest c.loop-i.invariant.3 h (held-passed c.put_scalars.ensures)) h
