-- `report::call::refuse_short` meets its contract. Assumes nothing.
use mathlib.Core.Path.{refl, sym}
use native.Mathlib.Omega.{arith}
use Rattle.base.proofs.Nonzero.{some-was, none-was}
use Rattle.walk.specs.OpenLaws.{begun-few}
use Rattle.report.specs.CallLaws.{short-once, short-twice}
use Rattle.report.proofs.call.refuse_short.Goals as goal

pub repeat_block-requires : goal.repeat_block-requires
repeat_block-requires c = rw (c.packages.ensures.0, c.packages.ensures.1, c.packages.ensures.2) (c.requires.0, (begun-few c.args.c.now.begun).0)

pub returns-in-Some : goal.returns-in-Some
returns-in-Some c = λ o lookups work room q h.
    let (a, e) = c.requires in
    let told = rw (c.packages.ensures.0, c.packages.ensures.1, c.packages.ensures.2) at c.in-Some.ensures in
    let (n, few) = some-was _ c.in-Some.block (sym (told o (rw (sym e) at q))) in
    short-twice c.args.c.now.begun q a (sym n) (λ z. absurd (omega arith)) (rw (c.at.ensures.0, c.at.ensures.1))

pub returns : goal.returns
returns c = λ o lookups work room q h.
    let (a, e) = c.requires in
    let told = rw (c.packages.ensures.0, c.packages.ensures.1, c.packages.ensures.2) at c.in_default.ensures in
    short-once c.args.c.now.begun q a refl (none-was _ (sym (told o (rw (sym e) at q)))) h (rw (c.at-2.ensures.0, c.at-2.ensures.1))
