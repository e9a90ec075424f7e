-- The number that a call returns (document 01: "the number of bytes written", or "Refused: bit 63 set"), of what its steps answer.
-- Assumes nothing.
use Rattle.std.specs.Prelude.{ℕ, Result, Ok, Err}
use Rattle.base.specs.Answer.{refusal}
use Rattle.base.specs.Refusal.{number}
use Rattle.base.specs.declared.refusal.Refused.{Refused}

-- how much was written, or the number of a refusal
abbrev pub answer_number : Result ℕ Refused → ℕ
answer_number (Ok n) = n
answer_number (Err r) = refusal (number r.why) r.block
