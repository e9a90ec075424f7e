-- `batch_in` meets its contract, by the two cases of `names_at`.
use mathlib.Core.Path.{◌∙◌}
use native.Mathlib.Omega.{arith}
use borrow.Author.Tests.{eq-eqb, ne_eqb}
use Rattle.zen.specs.Layouts.{names_at}
use Rattle.zen.proofs.layout.batch_in.Goals as goal

pub returns-then-count-eq0 : goal.returns-then-count-eq0
unfolding names_at
returns-then-count-eq0 c = rw (← c.le32_usize-count.ensures.is, eq-eqb c.le32_usize-count.result 0 c.if-count-eq0.true)

pub le32_usize-requires : goal.le32_usize-requires
le32_usize-requires c =
    let e = c.le32_usize-count.ensures.is in
    omega (arith, c.requires.room (λ z. c.if-count-eq0.false (e ∙ z)))

pub returns : goal.returns
unfolding names_at
returns c = rw (← c.le32_usize-count.ensures.is, ne_eqb c.le32_usize-count.result 0 c.if-count-eq0.false, ← c.le32_usize.ensures.is)
