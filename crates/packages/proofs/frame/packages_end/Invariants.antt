-- The loop's invariant: what is left from here on ends where all of it does.
use mathlib.Core.Path.{◌≡◌}
use mathlib.Core.List.{List}
use Prim.Native.Nat.{ℕ, ◌-◌, ◌≤◌, ◌<◌}
use lib.ListN.{length}
use Rattle.packages.specs.Framing.{packages_end}
use Rattle.packages.proofs.frame.packages_end.Given as goal

-- packages from here on end where all do
pub record Left (s : List ℕ) (from count at left : ℕ) : Type 0 where
  pub begun : 0 < at
  pub in_it : at ≤ length s
  pub same : packages_end s at left ≡ packages_end s from count

abbrev pub invariant-loop : goal.invariant-loop
invariant-loop l = Left l.c l.from l.count l.at (l.count - l.counter)
