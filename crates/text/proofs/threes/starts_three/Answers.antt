-- `threes::starts_three` meets its contract, by how many units there are. Assumes nothing.
use mathlib.Core.Path.{sym, ◌∙◌}
use native.Mathlib.Omega.{arith}
use lib.ListN.{length-drop}
use borrow.Author.Tests.{lt-leb}
use Rattle.text.specs.Units.{units_in}
use Rattle.text.proofs.ThreesLoop.{starts_short, starts_two}
use Rattle.text.proofs.threes.starts_three.Goals as goal

pub returns-then-count-i-ge2 : goal.returns-then-count-i-ge2
returns-then-count-i-ge2 c =
    rw (c.is_three.ensures, c.is_three-then-count-i-ge2.ensures, c.unit.ensures.0, c.unit-then-count-i-ge2.ensures.0)
    (sym (starts_two (units_in c.args.part) c.args.i (omega (arith, c.count.ensures, c.if-count-i-ge2.true))))

pub returns-else-count-i-ge2 : goal.returns-else-count-i-ge2
returns-else-count-i-ge2 c =
    let us = units_in c.args.part in
    lt-leb 2 _ (omega (arith, c.if-count-i-ge2.false)) ∙ sym (starts_short _ (omega (arith, length-drop c.args.i us, c.count.ensures, c.if-count-i-ge2.false)))
