-- `rows::compose_both` meets its contract: the object's text behind the class's. Assumes nothing.
use mathlib.Core.Path.{◌≡◌}
use Prim.Native.Nat.{◌*◌}
use native.Mathlib.Omega.{arith}
use lib.ListN.{length}
use Rattle.base.specs.OutputLaws.{wrote-taken}
use Rattle.resolve.specs.Lent.{lent-part}
use Rattle.pool.specs.ComposeLaws.{both_texts}
use Rattle.pool.proofs.rows.compose_both.Goals as goal

pub returns-then-is_missing : goal.returns-then-is_missing
returns-then-is_missing c =
    let p = c.args.p.now in
    let k = c.in_ok-k.ensures in
    let is = rw (lent-part (56 * p.n) c.args.w.now) at k.is in (
      omega (arith, k.few),
      record {
        both = λ ne. absurd (ne (c.is_missing.ensures.0 c.if-is_missing.true));
        alone = λ e xs t l. wrote-taken (is xs t (omega (arith, l, c.requires.1)));
      },
    )

pub returns : goal.returns
returns c =
    let p = c.args.p.now in
    let k = c.in_ok-k.ensures in
    let m = c.in_ok-m.ensures in
    let e : 512 ≡ length c.compose_class.new.out = omega (arith, c.compose_class.auto.out) in (
      omega (arith, k.few, m.few),
      record {
        both = λ ne. both_texts p.limits.objects e (rw (lent-part (56 * p.n) c.args.w.now) at k.is) m.is c.requires.1;
        alone = λ z. absurd (c.is_missing.ensures.1 c.if-is_missing.false z);
      },
    )
