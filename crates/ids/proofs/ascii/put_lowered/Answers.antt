-- `ascii::put_lowered`: the first four and the last are all, or one by one. Assumes nothing.
use mathlib.Core.Path.{◌≡◌}
use mathlib.Core.Bool.{true}
use mathlib.Core.List.{List, map}
use Prim.Native.Nat.{ℕ, ◌+◌, ◌-◌, ◌≤◌}
use native.Mathlib.Omega.{arith}
use lib.Seq.{take_all}
use Rattle.lower.specs.Ascii.{lower_ascii}
use Rattle.base.specs.OutputLaws.{wrote_none, wrote-paste, wrote_as, wrote_count}
use Rattle.text.specs.Units.{units_of}
use Rattle.ids.proofs.AsciiUnits.{ascii_bits, fours_ascii}
use Rattle.ids.proofs.WideUnits.{mapped-length}
use Rattle.ids.proofs.ascii.put_lowered.Goals as goal

pub returns-then-n-le8 : goal.returns-then-n-le8
returns-then-n-le8 c =
    let us : List ℕ = units_of true c.args.text.bytes.now in
    let vs : List ℕ = map lower_ascii us in
    let l = mapped-length lower_ascii us in
    let n : ℕ = c.count-n.result in
    let e : n - 4 + 4 ≡ n = omega arith in
    let h : n - 4 ≤ 4 = omega arith in
    let p = c.put_four-bits.ensures in
    let q = c.put_four.ensures in
    let v = wrote-paste vs 0 4 (wrote_none c.args.units.now) (omega arith) (omega arith) (omega arith) (omega arith) in
    let w = wrote-paste vs (n - 4) 4 v h (omega arith) (omega arith) (omega arith) in (
      rw (p.0, q.0) (fours_ascii us n c.count-n.ensures (omega arith) (omega arith)),
      rw (q.1, p.1) (wrote_count (wrote_as w (take_all (n - 4 + 4) vs (omega arith))) (omega arith)),
    )

pub returns : goal.returns
returns c =
    let p = c.put_all.ensures in
    (rw p.0 (ascii_bits (units_of true c.args.text.bytes.now)), p.1)
