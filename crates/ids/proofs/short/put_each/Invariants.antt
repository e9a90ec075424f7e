-- `short::put_each`: after i turns the array's front has the units of the first i bytes. Assumes nothing.
use mathlib.Core.Path.{◌≡◌}
use mathlib.Core.List.{map}
use Prim.Native.Nat.{ℕ, ◌<◌}
use lib.ListN.{take}
use Rattle.base.specs.Output.{Wrote}
use Rattle.ids.proofs.short.put_each.Given as goal

abbrev pub invariant-loop-i : goal.invariant-loop-i
invariant-loop-i g l =
    (f : ℕ → ℕ) → ((b r : ℕ) → b < 256 → goal.F-post g l.unit b r → r ≡ f b) → Wrote l.initial.units (take l.i (map f l.bytes)) l.units l.i
