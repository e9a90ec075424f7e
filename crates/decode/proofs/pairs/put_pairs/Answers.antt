-- `pairs::put_pairs` meets its contract. The loop's invariant: what the first k pairs mean is written. Assumes nothing.
use Rattle.std.proofs.Common.{◌≡◌, ◌+◌, ◌-◌, ◌*◌, arith}
use Rattle.decode.proofs.TailsLaws.{filling_room-two, filling_paired, part_long}
use Rattle.decode.proofs.pairs.put_pairs.Goals as goal

pub put_two-requires : goal.put_two-requires
put_two-requires c =
    let a = c.args in
    let v = c.loop-k.invariant in
    let k = v.5 in
    (omega (arith, v.1), omega (arith, filling_room-two k (part_long a.i a.to a.s.now (omega arith) _ (omega arith)), k.room, k.same))

pub loop-k-preserved : goal.loop-k-preserved
loop-k-preserved c =
    let a = c.args in
    let k = c.loop-k.k in
    let v = c.loop-k.invariant in
    let e : 2 * (k + 1) ≡ 2 * k + 2 = omega arith in
    let f : a.i + 2 * (k + 1) - 1 ≡ a.i + 2 * k + 1 = omega arith in (
      omega arith,
      v.1,
      v.2,
      v.3,
      v.4,
      rw (f, e, c.put_two.ensures, c.from-n.ensures) (filling_paired {to = a.to} {m = 16} k v.5 v.3 v.4 (omega arith) (omega arith) (omega arith)),
    )
