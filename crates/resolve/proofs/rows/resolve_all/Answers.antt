-- `rows::resolve_all` meets its contract. The loop's invariant: the first r rows are resolved, the others are as they were kept, all marks too, and the
-- total is that of the first r. Assumes nothing.
use mathlib.Core.Path.{◌∙◌, ap}
use Prim.Native.Nat.{◌≤◌, ◌<◌}
use native.Mathlib.Omega.{arith}
use lib.ListN.{length, get_or}
use lib.Seq.{take_all}
use Rattle.base.specs.Find.{sum}
use Rattle.base.specs.LoopLaws.{sum-take}
use Rattle.meaning.specs.Reference.{null}
use Rattle.resolve.specs.Rows.{limits_of, target_size}
use Rattle.resolve.specs.MarkLaws.{marks_then, part-marks}
use Rattle.resolve.specs.ResolvingLaws.{part-row, part-more, part-all}
use Rattle.resolve.proofs.rows.resolve_all.Goals as goal

pub resolve_row-total-requires : goal.resolve_row-total-requires
resolve_row-total-requires c =
    let p = c.requires.0 in
    let l = c.loop-r in
    let i = l.invariant.2 p.corpus p.block p.objects p.classes p.refs p.holds p.count in (
    record {
      corpus = p.corpus;
      block = p.block;
      objects = p.objects;
      classes = p.classes;
      ref = get_or p.refs l.r null;
      holds = part-row i.0 (omega (arith, p.count));
    }
    )

pub loop-r-preserved : goal.loop-r-preserved
loop-r-preserved c =
    let l = c.loop-r in
    let a = c.args in
    let p = c.requires.0 in
    let e = c.resolve_row-total.ensures in
    let u = (l.invariant.2 p.corpus p.block p.objects p.classes p.refs p.holds p.count).0 in (
      marks_then l.invariant.0
          (part-marks u p.count (omega arith)
          (e.0 p.corpus p.block p.objects p.classes (get_or p.refs l.r null) (part-row u (omega (arith, p.count)))).change),
      omega (arith, e.1),
      λ s b o xs refs t q.
          let i = l.invariant.2 s b o xs refs t q in
          let h : l.r < length refs = omega arith in
          let x = e.0 s b o xs (get_or refs l.r null) (part-row i.0 h) in
          (part-more i.0 h x, omega (arith, i.1, x.size, sum-take (target_size (limits_of a.m.lookups a.m.objects) xs o) refs l.r null h)),
    )

pub returns-clause-is : goal.returns-clause-is
returns-clause-is c =
    let l = c.loop-r in
    let a = c.args in
    λ s b o xs refs t q.
    let i = l.invariant.2 s b o xs refs t q in
    let h : length refs ≤ l.r = omega arith in
    record {
      length-is = l.invariant.0.size;
      holds = part-all i.0 h;
      size = i.1 ∙ ap (sum (target_size (limits_of a.m.lookups a.m.objects) xs o)) (take_all l.r refs h);
    }
