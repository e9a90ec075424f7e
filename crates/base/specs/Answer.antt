-- The number that a call returns (document 01: "Refused: bit 63 set, the refusal in bits 32 to 39, the block in bits 0 to 31, all
-- else 0"), and that it says what was packed. Assumes nothing.
use Rattle.std.specs.Prelude.{◌≡◌, Bool, true, false, ℕ, ◌+◌, ◌*◌, ◌/◌, ◌%◌, ◌^◌, ◌<◌, leb}
use Rattle.std.proofs.Common.{arith, le-leb}
use Rattle.std.proofs.lemmas.Bool.{lt-leb}

abbrev pub refusal : ℕ → ℕ → ℕ
refusal question block = 2 ^ 63 + question * 2 ^ 32 + block

abbrev pub is_refusal : ℕ → Bool
is_refusal n = leb (2 ^ 63) n

abbrev pub question_of : ℕ → ℕ
question_of n = n / 2 ^ 32 % 2 ^ 8

abbrev pub block_of : ℕ → ℕ
block_of n = n % 2 ^ 32

-- unpacking gives back what was packed
pub refusal_is : (question block : ℕ) → is_refusal (refusal question block) ≡ true
refusal_is question block = le-leb (2 ^ 63) (refusal question block) (omega arith)

pub refusal-question : (question block : ℕ) → question < 2 ^ 8 → block < 2 ^ 32 → question_of (refusal question block) ≡ question
refusal-question question block q b = omega arith

pub refusal-block : (question block : ℕ) → block < 2 ^ 32 → block_of (refusal question block) ≡ block
refusal-block question block b = omega arith

-- a length is no refusal
pub length-is-none : (n : ℕ) → n < 2 ^ 63 → is_refusal n ≡ false
length-is-none n h = lt-leb (2 ^ 63) n h
