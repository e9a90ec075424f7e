-- `links::link_classes` meets its contract. The loop's invariant: all is still kept as it was, and the first i classes are
-- linked. Assumes nothing.
use mathlib.Core.List.{[]}
use mathlib.Core.Path.{◌≡◌, ◌∙◌}
use native.Mathlib.Omega.{arith}
use Rattle.resolve.specs.LinkLaws.{tables-kept, linked-more}
use Rattle.resolve.proofs.links.link_classes.Goals as goal

pub link_class-requires : goal.link_class-requires
link_class-requires c =
    let p = c.requires in
    let t = p.some in
    let k = c.loop-i.invariant.1 t.corpus t.block t.objects t.classes [] (tables-kept t.holds) p.inside in
    record {
      some = record { corpus = t.corpus; block = t.block; objects = t.objects; classes = t.classes; holds = k.tables };
      inside = omega (arith, p.inside);
    }

pub loop-i-preserved : goal.loop-i-preserved
loop-i-preserved c =
    let l = c.loop-i in
    let e = c.link_class in (
      e.auto.w ∙ l.invariant.0,
      λ s b o xs refs t q. e.ensures.kept s b o xs refs (l.invariant.1 s b o xs refs t q) (omega arith),
      λ s b o xs t q.
          let k = l.invariant.1 s b o xs [] (tables-kept t) q in
          linked-more (l.invariant.2 s b o xs t q) (e.ensures.linked s b o xs k.tables (omega arith)) e.ensures.only,
    )

pub returns-clause-linked : goal.returns-clause-linked
returns-clause-linked c =
    let l = c.loop-i in
    let z : l.i ≡ c.args.classes = omega arith in
    λ s b o xs t q. rw z at (l.invariant.2 s b o xs t q)
