-- `is_fresh` meets its contract: each entry is asked.
use Rattle.std.specs.Prelude.{true, false}
use Prim.Native.Nat.{ℕ, ◌+◌, ◌*◌}
use mathlib.Core.Path.{◌≡◌, sym, ◌∙◌}
use native.Mathlib.Omega.{arith}
use Rattle.base.specs.Number.{le_at}
use Rattle.scriptblock.proofs.Seeking.{one_more_asked, fresh_is}
use Rattle.scriptblock.proofs.script.is_fresh.Goals as goal

pub loop-i-init : goal.loop-i-init
loop-i-init c = λ k h e. omega (arith, h)

pub returns-then-le64-global : goal.returns-then-le64-global
returns-then-le64-global c =
    fresh_is c.args.b.now c.args.global c.args.from c.args.n false (c.loop-i.i, c.loop-i-test.true, sym c.le64.ensures ∙ c.if-le64-global.true)

pub loop-i-preserved : goal.loop-i-preserved
loop-i-preserved c =
    one_more_asked (λ (k : ℕ). le_at 8 c.args.b.now (c.args.from + 32 * k + 8) ≡ c.args.global → ⊥) c.loop-i.i c.loop-i.invariant
    (λ e. c.if-le64-global.false (c.le64.ensures ∙ e))

pub returns : goal.returns
returns c = fresh_is c.args.b.now c.args.global c.args.from c.args.n true (λ k h. c.loop-i.invariant k (omega arith))
