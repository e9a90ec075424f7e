-- The loop's invariant: none of the entries before has the index.
use Prim.Native.Nat.{ℕ, ◌+◌, ◌*◌, ◌<◌}
use mathlib.Core.Path.{◌≡◌}
use Rattle.base.specs.Number.{le_at}
use Rattle.scriptblock.proofs.script.ScriptBlock.find.Given as goal

abbrev pub invariant-loop-i : goal.invariant-loop-i
invariant-loop-i l = (k : ℕ) → k < l.i → le_at 8 l.self.bytes.now (l.self.layout.entries + 32 * k + 8) ≡ l.global → ⊥
