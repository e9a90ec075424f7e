-- `compose::compose_class` meets its contract: the class's path behind the first four bytes, then its length in these. Assumes nothing.
use mathlib.Core.Path.{◌≡◌, refl}
use lib.ListN.{length}
use Prim.Native.Nat.{ℕ, suc, ◌-◌, ◌≤◌}
use native.Mathlib.Omega.{arith}
use Rattle.base.specs.NumberLaws.{length-be_bytes}
use Rattle.base.specs.OutputLaws.{wrote_none}
use Rattle.pool.specs.ComposeLaws.{class_over, class_roomy, class_text}
use Rattle.pool.proofs.compose.compose_class.Goals as goal

-- what the subtraction says of the class's number
no-class : {k : ℕ} → (1 ≤ k → ⊥) → k ≡ 0
no-class h = omega arith

one-more : {k i : ℕ} → (1 ≤ k) × (i ≡ k - 1) → k ≡ suc i
one-more h = omega arith

pub returns-in_default-clause-is : goal.returns-in_default-clause-is
returns-in_default-clause-is c = λ xs h l. rw (no-class c.in_default.ensures) (wrote_none c.args.out.now)

pub class_len-len-requires : goal.class_len-len-requires
class_len-len-requires c =
    let t = c.requires.1 in
    let up = one-more c.in-Some.ensures in
    (length t.table, record { corpus = c.args.c.now; classes = t.table; count = refl; holds = t.holds }, omega (arith, up, t.inside))

pub put_class_path-requires : goal.put_class_path-requires
put_class_path-requires c =
    class_roomy c.args.out.now c.requires.0 c.requires.1 (one-more c.in-Some.ensures) (c.class_len-len.ensures.0 c.args.c.now) c.if-len-gt252.false

pub returns-then-len-gt252-clause-long : goal.returns-then-len-gt252-clause-long
returns-then-len-gt252-clause-long c = λ xs h l.
    let up = one-more c.in-Some.ensures in
    class_over xs up (c.class_len-len.ensures.0 c.args.c.now xs h (omega (arith, up, l))) c.if-len-gt252.true

pub returns-clause-few : goal.returns-clause-few
returns-clause-few c = omega (arith, c.put_be32.ensures.size, length-be_bytes 4 c.class_len-len.result, c.if-len-gt252.false)

pub returns-clause-is : goal.returns-clause-is
returns-clause-is c =
    class_text c.args.out.now c.requires.0 c.requires.1 (one-more c.in-Some.ensures) (c.class_len-len.ensures.0 c.args.c.now) c.if-len-gt252.false
    c.put_class_path.ensures c.put_be32.ensures
