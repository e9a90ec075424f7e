-- A mapped name's index at a position of a list of bytes: 30 bits count. Assumes nothing.
use Rattle.std.specs.Prelude.{◌≡◌, List, ℕ, ◌+◌, ◌*◌, ◌%◌, ◌^◌, ◌≤◌, ◌<◌, length, get_or}
use Rattle.std.proofs.Common.{arith}
use Rattle.base.specs.Number.{le_at}
use Rattle.base.specs.NumberLaws.{Bytes, le_at-add, le_at-one, le_at-lt}
use Rattle.base.specs.Index.{name_index}

-- the low 30 bits of four bytes
unfoldable pub low30 : List ℕ → ℕ → ℕ
low30 s at = le_at 3 s at + 16777216 * (get_or s (at + 3) 0 % 2 ^ 6)

-- the same, of the four bytes' number
pub low30-is : (s : List ℕ) (at : ℕ) → Bytes s → at + 4 ≤ length s → low30 s at ≡ name_index (le_at 4 s at)
unfolding low30
low30-is s at b h =
    let l : le_at 3 s at < 256 ^ 3 = le_at-lt 3 s at b in
    rw (le_at-add 3 1 s at (omega arith), le_at-one s (at + 3)) (omega arith)

-- 30 bits
pub low30-lt : (s : List ℕ) (at : ℕ) → Bytes s → low30 s at < 2 ^ 30
unfolding low30
low30-lt s at b =
    let l : le_at 3 s at < 256 ^ 3 = le_at-lt 3 s at b in
    omega arith
