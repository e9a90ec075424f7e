-- What a call leaves (demand 1; clause a): the number and the report buffer, accepted and refused; of both buffers' contents nothing counts but
-- what stays, and the report buffer keeps its length.
use Rattle.std.specs.Prelude.{◌≡◌, false, List, ℕ, take, drop}
use Rattle.std.proofs.Math.Path.{refl, ap}
use Rattle.std.proofs.Math.ListN.{length}
use Rattle.base.specs.Answer.{refusal, is_refusal}
use Rattle.meaning.specs.Resolve.{Limits}
use Rattle.meaning.specs.Call.{Answer, refused_in, accepted, buffer_after}
use Rattle.meaning.specs.Limited.{answer_within, outcome_within}
use Rattle.meaning.proofs.LimitedLaws.{accepted_in}
use Rattle.meaning.specs.Answered as Answered
use Rattle.meaning.proofs.Fits.{report-short}

module _ (m : Limits) (corpus work buffer : List ℕ) where
  abbrev given : Answer (List ℕ)
  given = answer_within m corpus (length work) (length buffer)

  -- accepted: the report's length, its bytes in front, and behind them what stood there
  module _ (report : List ℕ) (h : answer_within m corpus (length work) (length buffer) ≡ accepted report) where
    pub accepted-number : (outcome_within m corpus work buffer).number ≡ length report
    unfolding outcome_within
    accepted-number = Answered.accepted-number given report h

    pub accepted-front : take (length report) (outcome_within m corpus work buffer).report ≡ report
    unfolding outcome_within
    accepted-front = Answered.accepted-front given report h buffer

    pub accepted-behind : drop (length report) (outcome_within m corpus work buffer).report ≡ drop (length report) buffer
    unfolding outcome_within
    accepted-behind = Answered.accepted-behind given report h buffer

    -- so the report is the buffer's first bytes, as many as the number says
    pub accepted-report : take (outcome_within m corpus work buffer).number (outcome_within m corpus work buffer).report ≡ report
    unfolding outcome_within
    accepted-report = Answered.accepted-output given report h buffer

  -- refused: question and block, and the buffer as it was
  module _ (q j : ℕ) (h : answer_within m corpus (length work) (length buffer) ≡ refused_in q j) where
    pub refused-number : (outcome_within m corpus work buffer).number ≡ refusal q j
    unfolding outcome_within
    refused-number = Answered.refused-number given q j h

    pub refused-buffer : (outcome_within m corpus work buffer).report ≡ buffer
    unfolding outcome_within
    refused-buffer = Answered.refused-buffer given q j h buffer

  -- a number without bit 63 is an accepted corpus's
  pub accepted-by : is_refusal (outcome_within m corpus work buffer).number ≡ false
      → (report : List ℕ) × (answer_within m corpus (length work) (length buffer) ≡ accepted report)
  unfolding outcome_within
  accepted-by h = Answered.accepted-by given h

  -- the report buffer keeps its length
  pub buffer-length : length (outcome_within m corpus work buffer).report ≡ length buffer
  unfolding outcome_within
  buffer-length = go given refl
    where
      go : (a : Answer (List ℕ)) → given ≡ a → length (buffer_after given buffer) ≡ length buffer
      go (refused_in q j) e = ap length (Answered.refused-buffer given q j e buffer)
      go (accepted report) e =
          let (i, h) = accepted_in m corpus (length work) (length buffer) report e in
          Answered.accepted-length given report e buffer (report-short m corpus (length work) (length buffer) report h).1

-- of the work buffer only the length counts
pub work-whatever : (m : Limits) (corpus w₁ w₂ buffer : List ℕ) → length w₁ ≡ length w₂ → outcome_within m corpus w₁ buffer ≡ outcome_within m corpus w₂ buffer
unfolding outcome_within
work-whatever m corpus w₁ w₂ buffer e = rw e

-- and of the report buffer for the number, and for the bytes that are written
pub number-whatever : (m : Limits) (corpus w₁ w₂ b₁ b₂ : List ℕ) → length w₁ ≡ length w₂ → length b₁ ≡ length b₂
    → (outcome_within m corpus w₁ b₁).number ≡ (outcome_within m corpus w₂ b₂).number
unfolding outcome_within
number-whatever m corpus w₁ w₂ b₁ b₂ e f = rw (e, f)
