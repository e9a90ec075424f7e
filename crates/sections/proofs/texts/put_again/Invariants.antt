-- `texts::put_again` meets its contract. The invariant: what stands in front stands there once more as far as byte i. Assumes nothing.
use mathlib.Core.Path.{◌≡◌}
use mathlib.Core.List.{List, ◌++◌}
use Prim.Native.Nat.{ℕ, ◌+◌}
use lib.ListN.{length, take}
use Rattle.base.specs.Output.{Wrote}
use Rattle.sections.proofs.texts.put_again.Given as goal

abbrev pub invariant-loop-i : goal.invariant-loop-i
invariant-loop-i l = record {
  room : length l.out ≡ length l.initial.out;
  wrote : (old a : List ℕ) → Wrote old a l.initial.out l.n → Wrote old (a ++ take l.i a) l.out (l.n + l.i);
}
