-- `scan::repeats::has_class` meets its contract. The loop's invariant: none of those passed is. Assumes nothing.
use mathlib.Core.Path.{sym, ◌∙◌, ap}
use borrow.Author.Rules.{rules}
use Rattle.scan.specs.Repeats.{is_class_of, has_class}
use Rattle.scan.specs.RepeatLaws.{below_none, below_more, below-yes, below_end}
use Rattle.scan.proofs.repeats.has_class.Goals as goal

pub loop-j-init : goal.loop-j-init
unfolding has_class
loop-j-init c = (search rules, λ o q. below_none _)

pub returns-then-is_class_of : goal.returns-then-is_class_of
unfolding has_class
returns-then-is_class_of c = λ o q.
    let a = c.args in
    let e = c.is_class_of.ensures o q ∙ ap (is_class_of a.s.now.limit o a.hash) c.export.ensures in
    sym (below-yes _ _ c.loop-j.j (search rules) (sym e ∙ c.if-is_class_of.true))

pub loop-j-preserved : goal.loop-j-preserved
unfolding has_class
loop-j-preserved c =
    let a = c.args in (
      search rules,
      λ o q.
          let e = c.is_class_of.ensures o q ∙ ap (is_class_of a.s.now.limit o a.hash) c.export.ensures in
          below_more _ _ (c.loop-j.invariant.1 o q) (sym e ∙ c.if-is_class_of.false),
    )

pub returns : goal.returns
unfolding has_class
returns c = λ o q. let l = c.loop-j in below_end _ _ _ l.invariant.0 (search rules) (l.invariant.1 o q)
