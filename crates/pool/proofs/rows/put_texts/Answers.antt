-- `rows::put_texts` meets its contract. Assumes nothing.
use mathlib.Core.Path.{◌≡◌}
use Prim.Native.Nat.{◌≤◌}
use native.Mathlib.Omega.{arith}
use lib.ListN.{length, take}
use lib.Seq.{length-take-le}
use Rattle.base.specs.OutputLaws.{wrote_count}
use Rattle.pool.specs.PoolLaws.{texts_as, put-kept-only, put-there}
use Rattle.pool.proofs.rows.put_texts.Goals as goal

pub returns : goal.returns
returns c =
    let a = c.args in
    let k = c.in_ok-k in
    let (few, is) = k.ensures in
    let e : length (take k.k c.compose_both.new.out) ≡ k.k = length-take-le k.k c.compose_both.new.out (omega (arith, few)) in
    let v = wrote_count c.put_plain.ensures.1 e in
    let h : a.free ≤ length a.w.now = omega arith in
    record {
      kept = put-kept-only a.free a.w.now h v;
      within = omega (arith, c.if-room-k.false);
      small = omega (arith, c.if-free.false);
      few = few;
      is = texts_as is (put-there a.free a.w.now h v);
    }
