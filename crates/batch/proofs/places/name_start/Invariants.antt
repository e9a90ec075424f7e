-- `name_start` meets its contract: each turn goes one name on.
use Prim.Native.Nat.{◌+◌, ◌*◌, ◌-◌}
use mathlib.Core.Path.{◌≡◌}
use Rattle.batch.specs.Places.{name_start}
use Rattle.batch.proofs.places.name_start.Given as goal

abbrev pub invariant-loop-k : goal.invariant-loop-k
invariant-loop-k l = name_start l.s l.from l.first l.i ≡ name_start l.s (l.from + 2 * l.k) l.p (l.i - l.k)
