-- `plain::put_ends` meets its contract. Assumes nothing.
use mathlib.Core.Path.{◌≡◌}
use Prim.Native.Nat.{◌+◌, ◌-◌}
use native.Mathlib.Omega.{arith}
use lib.ListN.{length}
use Rattle.text.specs.PlainLaws.{wrote_four}
use Rattle.text.proofs.plain.put_ends.Goals as goal

pub returns : goal.returns
returns c =
    let part = c.args.part.now in
    let e : length part - 8 + 8 ≡ length part = omega arith in
    let last = length part - 8 in
    rw (c.put_eight-4.ensures, c.put_eight-3.ensures, c.put_eight-2.ensures, c.put_eight.ensures)
    (wrote_four 8 part c.args.out.now c.min.result c.min-2.result last (omega (arith, c.min.ensures)) (omega (arith, c.min.ensures, c.min-2.ensures)) (omega (arith, c.min.ensures, c.min-2.ensures))
    (omega (arith, c.min-2.ensures)) (omega (arith, c.min-2.ensures)) e c.requires.2)
