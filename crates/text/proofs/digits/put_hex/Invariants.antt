-- `digits::put_hex` meets its contract. The invariant: behind the first i bytes stand the digits that those of `rest` lack. Assumes nothing.
use mathlib.Core.Path.{◌≡◌}
use mathlib.Core.List.{List, ◌++◌}
use Prim.Native.Nat.{ℕ}
use lib.ListN.{length, take, drop}
use Rattle.text.specs.Digits.{hex}
use Rattle.text.proofs.digits.put_hex.Given as goal

abbrev pub invariant-loop-i : goal.invariant-loop-i
invariant-loop-i l =
    (length l.out ≡ length l.initial.out)
    × ((t : List ℕ) × (hex l.k l.n ≡ hex l.i l.rest ++ t) × (l.out ≡ take l.i l.initial.out ++ (t ++ drop l.k l.initial.out)))
