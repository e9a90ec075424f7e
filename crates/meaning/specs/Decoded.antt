-- The returned number and the answer determine each other (document 01, "The call": "Accepted: the report's length. Refused: bit 63 set, the
-- refusal in bits 32 to 39, the block in bits 0 to 31, all else 0"): every refusal's question and block fit their bits, and no length has bit 63.
use Rattle.std.specs.Prelude.{◌≡◌, ◌⊎◌, ℕ, ◌^◌, ◌≤◌, ◌<◌, length}
use mathlib.Core.List.{List}
use Rattle.base.specs.Answer.{is_refusal, question_of, block_of}
use Rattle.base.specs.Choose.{pick}
use Rattle.base.specs.ReadingRefusals.{Within}
use Rattle.meaning.specs.Call.{Answer, refused_in, accepted}

-- ---- what a number says

-- a question and its block, or how long the report is
unfoldable pub decoded : ℕ → Answer ℕ
decoded n = pick (is_refusal n) (refused_in (question_of n) (block_of n)) (accepted n)

-- an answer without the report's bytes
abbrev pub in_short : Answer (List ℕ) → Answer ℕ
in_short (refused_in q j) = refused_in q j
in_short (accepted report) = accepted (length report)

-- ---- THE REFUSALS that there are: a question of document 01, and a block that four bytes hold

pub record Refusal (q j : ℕ) : Type 0 where
  pub question : Within 1 26 q
  -- the number between is retired
  pub kept : 22 < q → 24 ≤ q
  pub block : j < 2 ^ 32

-- the refusals of a call with its limits: 29 besides
pub record RefusalWithin (q j : ℕ) : Type 0 where
  pub question : Within 1 26 q ⊎ (q ≡ 29)
  pub kept : 22 < q → 24 ≤ q
  pub block : j < 2 ^ 32
