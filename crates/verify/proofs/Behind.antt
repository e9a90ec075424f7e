-- One thing written behind another, by how many bytes both take. Assumes nothing.
use mathlib.Core.Path.{◌≡◌, ◌∙◌}
use mathlib.Core.List.{List, ◌++◌}
use Prim.Native.Nat.{ℕ, ◌+◌, ◌-◌}
use lib.ListN.{length, take, drop}
use Rattle.base.specs.Number.{be_bytes}
use Rattle.base.specs.NumberLaws.{length-be_bytes}
use Rattle.base.specs.Output.{Wrote}
use Rattle.base.specs.OutputLaws.{wrote-rest, wrote_count}

-- x and then y were written, which take n and m bytes
pub next : {s x o y q : List ℕ} {n m k : ℕ} → Wrote s x o n → Wrote (take (length o - n) (drop n o)) y q m → n + m ≡ k
    → Wrote s (x ++ y) (take n o ++ (q ++ drop (length o - n) (drop n o))) k
next a b e = wrote_count (wrote-rest a b) e

-- a count takes four
pub four : (x : ℕ) {s o : List ℕ} {k : ℕ} → Wrote s (be_bytes 4 x) o k → Wrote s (be_bytes 4 x) o 4
four x w = wrote_count w (w.size ∙ length-be_bytes 4 x)
