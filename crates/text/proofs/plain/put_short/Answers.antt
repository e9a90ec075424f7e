-- `plain::put_short` meets its contract. Assumes nothing.
use mathlib.Core.Path.{◌≡◌}
use Prim.Native.Nat.{◌+◌, ◌-◌}
use native.Mathlib.Omega.{arith}
use lib.ListN.{length}
use lib.Seq.{take-length}
use Rattle.base.specs.OutputLaws.{wrote_none, wrote-paste, wrote_as, wrote_count}
use Rattle.text.proofs.plain.put_short.Goals as goal

pub returns : goal.returns
returns c =
    let part = c.args.part.now in
    let e : length part - 4 + 4 ≡ length part = omega arith in
    let v = wrote-paste part 0 4 (wrote_none c.args.out.now) (omega arith) (omega arith) (omega arith) (omega arith) in
    let w = wrote-paste part (length part - 4) 4 v (omega arith) (omega arith) (omega arith) (omega arith) in
    rw (c.put_half-2.ensures, c.put_half.ensures) (wrote_count (wrote_as w (rw (e, take-length))) e)
