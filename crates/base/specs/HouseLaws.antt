-- Laws of the house form: a length field says how many bytes follow it. Assumes nothing.
use Rattle.std.specs.Prelude.{◌≡◌, List, ℕ, ◌+◌, ◌^◌, ◌<◌, length, take}
use Rattle.std.proofs.Common.{mod-eq_of_lt, arith, length-append, take_at}
use Rattle.base.specs.Number.{be, be_bytes}
use Rattle.base.specs.NumberLaws.{length-be_bytes, be-be_bytes}
use Rattle.base.specs.House.{length_first}

pub length_first_lem : (l : List ℕ) → length (length_first l) ≡ 4 + length l
length_first_lem l = rw (length-append (be_bytes 4 (length l)) l, length-be_bytes 4 (length l))

-- the length field is right, where four bytes hold it
pub first-is : (l : List ℕ) → length l < 2 ^ 32 → be (take 4 (length_first l)) + 4 ≡ length (length_first l)
first-is l h =
    rw (take_at (be_bytes 4 (length l)) l 4 (length-be_bytes 4 (length l)), be-be_bytes 4 (length l), mod-eq_of_lt h, length_first_lem l) (omega arith)
