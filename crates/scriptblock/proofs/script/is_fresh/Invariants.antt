-- The loop's invariant: none of the entries before has the index.
use Prim.Native.Nat.{ℕ, ◌+◌, ◌*◌, ◌<◌}
use mathlib.Core.Path.{◌≡◌}
use Rattle.base.specs.Number.{le_at}
use Rattle.scriptblock.proofs.script.is_fresh.Given as goal

abbrev pub invariant-loop-i : goal.invariant-loop-i
invariant-loop-i l = (k : ℕ) → k < l.i → le_at 8 l.b (l.from + 32 * k + 8) ≡ l.global → ⊥
