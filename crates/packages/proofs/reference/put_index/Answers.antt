-- `packages::reference::put_index` meets its contract: the text, then the digits. Assumes nothing.
use mathlib.Core.List.{List, ◌++◌}
use Prim.Native.Nat.{ℕ, ◌-◌, ◌≤◌}
use native.Mathlib.Omega.{arith}
use lib.ListN.{length, take, drop}
use Rattle.text.specs.Digits.{hex}
use Rattle.text.specs.DigitsLaws.{length-hex}
use Rattle.base.specs.Output.{Wrote}
use Rattle.base.specs.OutputLaws.{wrote-rest, next-room}
use Rattle.packages.proofs.reference.put_index.Goals as goal

hex-room : (s a o : List ℕ) (n m : ℕ) → Wrote s a o n → length (a ++ hex 16 m) ≤ length s → 16 ≤ length (take (length o - n) (drop n o))
hex-room s a o n m w h = omega (arith, next-room s a (hex 16 m) o n w h, length-hex 16 m)

pub put_hex-requires : goal.put_hex-requires
put_hex-requires c = search hex-room

pub returns : goal.returns
returns c = search wrote-rest
