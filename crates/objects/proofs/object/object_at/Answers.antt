-- `object::object_at` meets its contract: the columns of the record. Assumes nothing.
use mathlib.Core.Path.{◌≡◌, refl, ◌∙◌, ap}
use Prim.Native.Nat.{ℕ, ◌+◌}
use native.Mathlib.Omega.{arith}
use Rattle.base.specs.Number.{le_at}
use Rattle.objects.specs.Work.{object_no}
use Rattle.objects.specs.PathLaws.{link_at_lem, columns-at}
use Rattle.objects.proofs.object.object_at.Goals as goal

pub returns : goal.returns
unfolding object_no
returns c = λ b o t.
    let at = c.record_at.result in
    let k = columns-at t c.args.i c.requires.1 c.record_at.ensures in
    let q = link_at_lem t c.args.i c.requires.1 c.record_at.ensures refl in
    let read : ℕ → ℕ = λ (x : ℕ). le_at 4 c.args.w.now x in
    let s : at + 24 + 4 ≡ at + 28 = omega arith in
    let z : at + 24 + 8 ≡ at + 32 = omega arith in
    let n : at + 24 + 12 ≡ at + 36 = omega arith in
    c.columns_at.ensures ∙ rw (q, ap read s ∙ k.start, ap read z ∙ k.size, ap read n ∙ k.number)
