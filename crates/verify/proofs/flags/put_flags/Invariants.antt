-- `flags::put_flags` meets its contract. The loop's invariant: the flags of the packages passed are written. Assumes nothing.
use mathlib.Core.Path.{◌≡◌}
use mathlib.Core.List.{List, map}
use Prim.Native.Nat.{ℕ}
use Rattle.base.specs.Output.{Wrote}
use Rattle.meaning.specs.Verify.{package_flag}
use Rattle.packages.specs.Walk.{place_of, packages_at}
use Rattle.verify.proofs.flags.put_flags.Given as goal

-- the first i flags are written, and the next package is at a place
pub record Sofar (c : List ℕ) (from : ℕ) (old : List ℕ) (i at : ℕ) (new : List ℕ) : Type 0 where
  pub place : at ≡ place_of c from i
  pub wrote : Wrote old (map package_flag (packages_at c from i)) new i

abbrev pub invariant-loop-i : goal.invariant-loop-i
invariant-loop-i l = Sofar l.p.corpus.now l.p.at l.initial.out l.i l.at l.out
