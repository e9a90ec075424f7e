-- `id::put_bytes`: after i turns the buffer's front has the units of the first i bytes. Assumes nothing.
use mathlib.Core.Path.{◌≡◌}
use mathlib.Core.List.{map}
use Prim.Native.Nat.{ℕ, ◌*◌, ◌<◌}
use lib.ListN.{take}
use Rattle.base.specs.Output.{Wrote}
use Rattle.text.specs.Utf16.{unit_bytes}
use Rattle.ids.proofs.id.put_bytes.Given as goal

abbrev pub invariant-loop-i : goal.invariant-loop-i
invariant-loop-i g l =
    (f : ℕ → ℕ) → ((b r : ℕ) → b < 256 → goal.F-post g l.lower b r → r ≡ f b)
    → Wrote l.initial.out (unit_bytes (take l.i (map f l.bytes))) l.out (2 * l.i)
