-- `plain::is_long` meets its contract. Assumes nothing.
use mathlib.Core.Path.{◌≡◌}
use Prim.Native.Nat.{◌+◌, ◌-◌}
use native.Mathlib.Omega.{arith}
use lib.ListN.{length}
use Rattle.text.specs.PlainLaws.{ascii_four}
use Rattle.text.proofs.plain.is_long.Goals as goal

pub returns : goal.returns
returns c =
    let part = c.args.part.now in
    let e : length part - 16 + 16 ≡ length part = omega arith in
    let last = length part - 16 in
    rw (c.is_pair.ensures, c.is_pair-2.ensures, c.is_pair-3.ensures, c.is_pair-4.ensures)
    (ascii_four 16 part 16 c.min.result last (omega arith) (omega (arith, c.min.ensures)) (omega (arith, c.min.ensures))
    (omega (arith, c.min.ensures)) (omega (arith, c.min.ensures)) e)
