-- `scan::repeats::is_before` meets its contract. The loop's invariant: none of the packages passed has one. Assumes nothing.
use mathlib.Core.Path.{sym, ◌∙◌, ap}
use borrow.Author.Rules.{rules}
use Rattle.packages.specs.Walk.{package_at}
use Rattle.packages.specs.WalkLaws.{place_none}
use Rattle.scan.specs.Repeats.{has_public, is_before}
use Rattle.scan.specs.PlaceLaws.{next_here, sites-less, site-here, read_here}
use Rattle.scan.specs.RepeatLaws.{below_none, below_more, below-yes, below_end}
use Rattle.scan.proofs.repeats.is_before.Goals as goal

pub loop-init : goal.loop-init
unfolding is_before
loop-init c = (sym (place_none _ _), search rules, λ o q. below_none _)

pub has_public-requires : goal.has_public-requires
has_public-requires c =
    read_here (sites-less c.args.p.now.sites _ c.requires.0) c.loop.invariant.0 (search rules) c.requires.1

pub returns-then-has_public : goal.returns-then-has_public
unfolding is_before
returns-then-has_public c = λ o q.
    let a = c.args in
    let l = c.loop in
    let e = c.has_public.ensures o q ∙ ap (λ x. has_public a.s.now.limit o (package_at a.p.now.corpus.now x) a.id a.hash) l.invariant.0 in
    sym (below-yes _ _ l.counter (search rules) (sym e ∙ c.if-has_public.true))

pub next_at-here-requires : goal.next_at-here-requires
next_at-here-requires c = site-here (sites-less c.args.p.now.sites _ c.requires.0) c.loop.invariant.0 (search rules)

pub loop-preserved : goal.loop-preserved
unfolding is_before
loop-preserved c =
    let a = c.args in
    let l = c.loop in (
      next_here _ _ l.counter l.invariant.0 c.next_at-here.ensures,
      search rules,
      λ o q.
          let e = c.has_public.ensures o q ∙ ap (λ x. has_public a.s.now.limit o (package_at a.p.now.corpus.now x) a.id a.hash) l.invariant.0 in
          below_more _ _ (l.invariant.2 o q) (sym e ∙ c.if-has_public.false),
    )

pub returns : goal.returns
unfolding is_before
returns c = λ o q. let l = c.loop in below_end _ _ _ l.invariant.1 (search rules) (l.invariant.2 o q)
