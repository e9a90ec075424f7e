-- `chain::target_of` meets its contract. Assumes nothing.
use mathlib.Core.Path.{◌≡◌, sym, ◌∙◌, ap}
use Prim.Native.Nat.{◌≤◌}
use native.Mathlib.Omega.{arith}
use lib.ListN.{length}
use Rattle.base.specs.OneMore.{one_more}
use Rattle.meaning.specs.Key.{public}
use Rattle.resolve.specs.ChainLaws.{means_no_key, means-class, means-keeps, seek-le}
use Rattle.resolve.specs.Rows.{class_number}
use Rattle.resolve.proofs.chain.target_of.Goals as goal
use Rattle.resolve.proofs.chain.target_of.Goals.{then-m-eq0, else-m-eq0}

pub end_of-requires : goal.end_of-requires
end_of-requires c =
    let p = c.requires in
    let l : one_more c.if-m-eq0.class ≤ length p.classes = elim c.if-m-eq0.branch [
      | then-m-eq0 w ↦ omega (arith, ap one_more w.class-is)
      | else-m-eq0 w ↦
          seek-le p.classes (public c.args.m.lo c.args.m.hi) (one_more c.if-m-eq0.class)
          (ap one_more w.class-is ∙ w.class_at-class.ensures p.corpus p.block p.objects p.classes p.holds)
    ] in record { some = p; inside = l }

pub returns : goal.returns
returns c = λ s b o xs r t m.
    let found : one_more c.if-m-eq0.class ≡ class_number xs r = elim c.if-m-eq0.branch [
      | then-m-eq0 w ↦ ap one_more w.class-is ∙ sym (means_no_key m t.classes w.if-m-eq0.true)
      | else-m-eq0 w ↦ ap one_more w.class-is ∙ (w.class_at-class.ensures s b o xs t ∙ sym (means-class m xs (omega (arith, w.if-m-eq0.false))))
    ] in record { class-is = found; object-is = c.end_of.ensures s b o xs r t (means-keeps xs m) found }
