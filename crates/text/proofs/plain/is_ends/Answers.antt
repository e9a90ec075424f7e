-- `plain::is_ends` meets its contract. Assumes nothing.
use mathlib.Core.Path.{◌≡◌}
use Prim.Native.Nat.{◌+◌, ◌-◌}
use native.Mathlib.Omega.{arith}
use lib.ListN.{length}
use Rattle.text.specs.PlainLaws.{ascii_four}
use Rattle.text.proofs.plain.is_ends.Goals as goal

pub returns : goal.returns
returns c =
    let part = c.args.part.now in
    let e : length part - 8 + 8 ≡ length part = omega arith in
    let last = length part - 8 in
    rw (c.is_word.ensures, c.is_word-2.ensures, c.is_word-3.ensures, c.is_word-4.ensures)
    (ascii_four 8 part c.min.result c.min-2.result last (omega (arith, c.min.ensures)) (omega (arith, c.min.ensures, c.min-2.ensures)) (omega (arith, c.min.ensures, c.min-2.ensures))
    (omega (arith, c.min-2.ensures)) (omega (arith, c.min-2.ensures)) e)
