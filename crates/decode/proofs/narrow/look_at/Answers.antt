-- `decode::narrow::look_at` meets its contract. The loop's invariant: what is seen of the first i bytes, and what those from there on hold.
-- Assumes nothing.
use Rattle.std.proofs.Common.{◌≡◌, ◌+◌, ◌-◌, arith}
use Rattle.decode.proofs.NarrowLaws.{bit_few, far-next, masked}
use Rattle.decode.proofs.narrow.look_at.Goals as goal

pub loop-i-preserved : goal.loop-i-preserved
loop-i-preserved g c =
    let a = c.args in
    let l = c.loop-i in
    let e : a.at + (l.i + 1) - 1 ≡ a.at + l.i = omega arith in
    let on = masked _ l.i a.n (λ h. omega (arith, c.requires.3 h)) in
    let units = rw l.invariant.0 at c.from-units.ensures in (
      omega arith,
      omega (arith, bit_few _ c.from-units.ensures),
      rw (e, l.invariant.0) (far-next a.s.now a.at a.n (omega arith) _ _ l.i l.invariant.2 _ on _ c.is_wrong.ensures _ units),
    )
