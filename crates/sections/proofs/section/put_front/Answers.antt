-- `section::put_front` meets its contract: one number behind another. Assumes nothing.
use mathlib.Core.Path.{◌≡◌, ◌∙◌}
use mathlib.Core.List.{List, ◌++◌}
use Prim.Native.Nat.{ℕ, ◌+◌, ◌-◌}
use native.Mathlib.Omega.{arith}
use lib.ListN.{length, take, drop}
use Rattle.base.specs.NumberLaws.{length-be_bytes}
use Rattle.base.specs.Output.{Wrote}
use Rattle.base.specs.OutputLaws.{wrote-rest, wrote_count}
use Rattle.sections.proofs.section.put_front.Goals as goal

-- x and then y were written, which take n and m bytes
next : {s x o y q : List ℕ} {n m k : ℕ} → Wrote s x o n → Wrote (take (length o - n) (drop n o)) y q m → n + m ≡ k
    → Wrote s (x ++ y) (take n o ++ (q ++ drop (length o - n) (drop n o))) k
next a b e = wrote_count (wrote-rest a b) e

pub returns : goal.returns
returns c =
    let u = c.args in
    let i : c.put_be32.result ≡ 4 = c.put_be32.ensures.size ∙ length-be_bytes 4 u.size in
    let k : c.put_be32-2.result ≡ 4 = c.put_be32-2.ensures.size ∙ length-be_bytes 4 u.count in
    next (next (wrote_count c.put_be32.ensures i) c.put_byte.ensures (omega (arith, c.put_byte.ensures.size))) c.put_be32-2.ensures (omega (arith, k))
