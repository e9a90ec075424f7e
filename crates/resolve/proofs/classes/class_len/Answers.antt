-- `classes::class_len` meets its contract: the column is the length. Assumes nothing.
use mathlib.Core.Path.{◌∙◌, ap}
use Prim.Native.Nat.{ℕ, ◌+◌}
use native.Mathlib.Omega.{arith}
use Rattle.base.specs.Number.{le_at}
use Rattle.resolve.proofs.classes.class_len.Goals as goal

pub returns : goal.returns
returns c =
    let (q, t, l) = c.requires in
    let e = c.le32_usize.ensures.is ∙ ap (λ (r : ℕ). le_at 4 c.args.w.now (r + 40)) c.record_at.ensures in
    let d = t.holds.columns c.args.k (omega (arith, t.count)) in
    (λ s xs h g. e ∙ (h.columns c.args.k g).size_in_lem, omega (arith, e ∙ d.size_in_lem, d.short))
