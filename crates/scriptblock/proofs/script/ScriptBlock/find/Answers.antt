-- `find` meets its contract: the first entry with the index is found.
use Rattle.std.specs.Prelude.{Some, None}
use Prim.Native.Nat.{ℕ, ◌+◌, ◌*◌}
use mathlib.Core.Path.{◌≡◌, sym, ◌∙◌}
use native.Mathlib.Omega.{arith}
use Rattle.base.specs.Number.{le_at}
use Rattle.scriptblock.proofs.ScriptAccepted.{script-parts}
use Rattle.scriptblock.proofs.Seeking.{one_more_asked, number_found}
use Rattle.scriptblock.proofs.script.ScriptBlock.find.Goals as goal

pub loop-i-init : goal.loop-i-init
loop-i-init c = λ k h e. omega (arith, h)

pub overflow_mul-i : goal.overflow_mul-i
overflow_mul-i c = omega (arith, (script-parts _ _ c.args.self.now.accepted).size, c.loop-i-test.true)

pub overflow_add-self : goal.overflow_add-self
overflow_add-self c = omega (arith, (script-parts _ _ c.args.self.now.accepted).size, c.loop-i-test.true)

pub overflow_add-self-in-loop-i : goal.overflow_add-self-in-loop-i
overflow_add-self-in-loop-i c = omega (arith, (script-parts _ _ c.args.self.now.accepted).size, c.loop-i-test.true)

pub le64-requires : goal.le64-requires
le64-requires c = omega (arith, (script-parts _ _ c.args.self.now.accepted).size, c.loop-i-test.true)

pub returns-then-le64-global : goal.returns-then-le64-global
returns-then-le64-global c =
    let s = c.args.self.now in
    number_found s.bytes.now c.args.global s.layout s.accepted (Some c.loop-i.i)
    (omega arith, c.loop-i-test.true, sym c.le64.ensures ∙ c.if-le64-global.true, λ k z h. c.loop-i.invariant k h)

pub loop-i-preserved : goal.loop-i-preserved
loop-i-preserved c =
    let s = c.args.self.now in
    one_more_asked (λ (k : ℕ). le_at 8 s.bytes.now (s.layout.entries + 32 * k + 8) ≡ c.args.global → ⊥) c.loop-i.i c.loop-i.invariant
    (λ e. c.if-le64-global.false (c.le64.ensures ∙ e))

pub returns : goal.returns
returns c =
    let s = c.args.self.now in
    number_found s.bytes.now c.args.global s.layout s.accepted None (λ k z h. c.loop-i.invariant k (omega arith))
