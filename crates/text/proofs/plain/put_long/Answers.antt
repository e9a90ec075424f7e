-- `plain::put_long` meets its contract. Assumes nothing.
use mathlib.Core.Path.{◌≡◌}
use Prim.Native.Nat.{◌+◌, ◌-◌}
use native.Mathlib.Omega.{arith}
use lib.ListN.{length}
use Rattle.text.specs.PlainLaws.{wrote_four}
use Rattle.text.proofs.plain.put_long.Goals as goal

pub returns : goal.returns
returns c =
    let part = c.args.part.now in
    let e : length part - 16 + 16 ≡ length part = omega arith in
    let last = length part - 16 in
    rw (c.put_sixteen-4.ensures, c.put_sixteen-3.ensures, c.put_sixteen-2.ensures, c.put_sixteen.ensures)
    (wrote_four 16 part c.args.out.now 16 c.min.result last (omega arith) (omega (arith, c.min.ensures)) (omega (arith, c.min.ensures))
    (omega (arith, c.min.ensures)) (omega (arith, c.min.ensures)) e c.requires.2)
