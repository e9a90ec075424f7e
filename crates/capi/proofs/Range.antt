-- What a call gives where the test of question 29 passes or fails.
use mathlib.Core.Path.{◌≡◌}
use mathlib.Core.Bool.{true, false}
use mathlib.Core.List.{List}
use Prim.Native.Nat.{ℕ}
use Rattle.base.specs.Answer.{refusal}
use Rattle.meaning.specs.Resolve.{limits_of}
use Rattle.meaning.specs.Call.{outcome, number_of, buffer_after}
use Rattle.meaning.specs.Limited.{in_range, answer_within}
use Rattle.claims.specs.Claims.{Called}

module _ {lookups objects : ℕ} {corpus work buffer report : List ℕ} {number : ℕ} where
  -- passed: what the inner call answers
  pub called_in : in_range (limits_of lookups objects) ≡ true → number ≡ (outcome (limits_of lookups objects) corpus work buffer).number
      → report ≡ (outcome (limits_of lookups objects) corpus work buffer).report → Called corpus lookups objects work buffer number report
  unfolding outcome answer_within
  called_in passed n r = record { number_is = rw passed n; report-is = rw passed r }

  -- failed: 29, and the buffer as it was
  pub called_out : in_range (limits_of lookups objects) ≡ false → number ≡ refusal 29 0 → report ≡ buffer
      → Called corpus lookups objects work buffer number report
  unfolding answer_within number_of buffer_after
  called_out failed n r = record { number_is = rw failed n; report-is = rw failed r }
