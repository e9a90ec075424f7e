-- `scan::repeats::repeat_block` meets its contract. The loop's invariant: none of the packages passed has one. Assumes nothing.
use mathlib.Core.Path.{sym, ◌∙◌, ap}
use Prim.Native.Nat.{◌+◌}
use native.Mathlib.Omega.{arith}
use borrow.Author.Rules.{rules}
use Rattle.base.specs.OneMore.{nonzero}
use Rattle.base.proofs.Nonzero.{some-is}
use Rattle.packages.specs.WalkLaws.{place_none, all-less}
use Rattle.scan.specs.PlaceLaws.{next_here, site-here}
use Rattle.scan.specs.RepeatLaws.{below_none, below_more, below_end, repeat_none, repeat_first}
use Rattle.scan.proofs.repeats.repeat_block.Goals as goal

pub loop-i-init : goal.loop-i-init
loop-i-init c = (sym (place_none _ _), search rules, λ o q. below_none _)

pub repeats_in-requires : goal.repeats_in-requires
repeats_in-requires c =
    (omega arith, all-less _ (omega arith) c.requires.0, c.loop-i.invariant.0)

pub returns-then-repeats_in : goal.returns-then-repeats_in
returns-then-repeats_in c = λ o q.
    let l = c.loop-i in
    some-is (l.i + 2) (omega arith) ∙ ap nonzero (repeat_first _ o _ _ l.i _ (search rules) (l.invariant.2 o q) (sym (c.repeats_in.ensures o q) ∙ c.if-repeats_in.true))

pub next_at-here-requires : goal.next_at-here-requires
next_at-here-requires c = site-here c.args.p.now.sites c.loop-i.invariant.0 (search rules)

pub loop-i-preserved : goal.loop-i-preserved
loop-i-preserved c =
    let l = c.loop-i in
    (next_here _ _ l.i l.invariant.0 c.next_at-here.ensures, search rules, λ o q. below_more _ _ (l.invariant.2 o q) (sym (c.repeats_in.ensures o q) ∙ c.if-repeats_in.false))

pub returns : goal.returns
returns c = λ o q.
    let l = c.loop-i in
    ap nonzero (repeat_none _ o _ _ _ (sym (below_end _ _ _ l.invariant.1 (search rules) (l.invariant.2 o q))))
