-- `plain::is_short` meets its contract. Assumes nothing.
use mathlib.Core.Path.{◌≡◌}
use Prim.Native.Nat.{◌+◌, ◌-◌}
use native.Mathlib.Omega.{arith}
use lib.ListN.{length}
use Rattle.text.specs.PlainLaws.{ascii_cover}
use Rattle.text.proofs.plain.is_short.Goals as goal

pub returns : goal.returns
returns c =
    let part = c.args.part.now in
    let e : length part - 4 + 4 ≡ length part = omega arith in
    rw (c.is_half.ensures, c.is_half-2.ensures) (ascii_cover 4 part 4 (length part - 4) e (omega arith))
