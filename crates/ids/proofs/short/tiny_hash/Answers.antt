-- `short::tiny_hash`: no unit, one by its bytes, or two or three by their first and last two. Assumes nothing.
use mathlib.Core.Path.{◌≡◌, sym}
use mathlib.Core.List.{List}
use Prim.Native.Nat.{ℕ, ◌/◌, ◌%◌}
use native.Mathlib.Omega.{arith}
use Rattle.ids.proofs.ShortUnits.{units-none, units-one, units-halves}
use Rattle.ids.proofs.short.tiny_hash.Goals as goal

pub returns-then-n-eq0 : goal.returns-then-n-eq0
returns-then-n-eq0 g c = rw c.hash_len0.ensures (sym (units-none (g.U.Units.units c.args.name) c.count-n.result c.count-n.ensures c.if-n-eq0.true))

pub returns-then-n-eq1 : goal.returns-then-n-eq1
returns-then-n-eq1 g c =
    let us : List ℕ = g.U.Units.units c.args.name in
    let u = c.unit.ensures in
    let h : c.unit.result / 256 % 256 ≡ c.unit.result / 256 = omega arith in
    rw (c.hash_bytes.ensures, c.to_le_bytes.ensures, h, u.0) (sym (units-one us c.count-n.result c.count-n.ensures c.if-n-eq1.true))

pub returns : goal.returns
returns g c =
    rw (c.hash_halves.ensures, c.pair.ensures, c.pair-2.ensures)
    (sym (units-halves (g.U.Units.units c.args.name) c.count-n.result c.count-n.ensures (omega arith) (omega arith)))
