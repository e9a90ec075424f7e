-- What an answer leaves, of every call that answers in this form (document 01: "Accepted: the report's length. Refused: bit 63 set, ..", "refused,
-- its output buffer is unchanged"; document 02: "bytes past the output stay as they were"): the number, and the buffer lent for the output.
use Rattle.std.specs.Prelude.{◌≡◌, refl, false, List, ℕ, ◌≤◌, length, take, drop}
use Rattle.base.specs.Answer.{refusal, is_refusal, refusal_is}
use Rattle.base.specs.Never.{never}
use Rattle.base.specs.Output.{over}
use Rattle.base.specs.OutputLaws.{take-over, drop-over, wrote-length}
use Rattle.meaning.specs.Call.{Answer, refused_in, accepted, number_of, buffer_after}

module _ (a : Answer (List ℕ)) where
  -- accepted: the output's length, its bytes in front, and behind them what stood there
  module _ (output : List ℕ) (h : a ≡ accepted output) where
    pub accepted-number : number_of a ≡ length output
    unfolding number_of
    accepted-number = rw h

    pub accepted-over : (old : List ℕ) → buffer_after a old ≡ over old output
    unfolding buffer_after
    accepted-over old = rw h

    pub accepted-front : (old : List ℕ) → take (length output) (buffer_after a old) ≡ output
    accepted-front old = rw (accepted-over old) (take-over old output (length output) refl)

    pub accepted-behind : (old : List ℕ) → drop (length output) (buffer_after a old) ≡ drop (length output) old
    accepted-behind old = rw (accepted-over old) (drop-over old output (length output) refl)

    -- so the output is the buffer's first bytes, as many as the number says
    pub accepted-output : (old : List ℕ) → take (number_of a) (buffer_after a old) ≡ output
    accepted-output old = rw accepted-number (accepted-front old)

    -- a buffer that holds the output keeps its length
    pub accepted-length : (old : List ℕ) → length output ≤ length old → length (buffer_after a old) ≡ length old
    accepted-length old fits = wrote-length (record { size = refl; fits = fits; is = accepted-over old })

  -- refused: question and block, and the buffer as it was
  module _ (q j : ℕ) (h : a ≡ refused_in q j) where
    pub refused-number : number_of a ≡ refusal q j
    unfolding number_of
    refused-number = rw h

    pub refused-buffer : (old : List ℕ) → buffer_after a old ≡ old
    unfolding buffer_after
    refused-buffer old = rw h

    -- and bit 63 says so
    pub refused-not : {P : Type 0} → is_refusal (number_of a) ≡ false → P
    refused-not ok = let r : is_refusal (refusal q j) ≡ false = rw refused-number at ok in never (cc (refusal_is q j))

-- a number without bit 63 is an accepted answer's
pub accepted-by : (a : Answer (List ℕ)) → is_refusal (number_of a) ≡ false → (output : List ℕ) × (a ≡ accepted output)
accepted-by (refused_in q j) h = refused-not (refused_in q j) q j refl h
accepted-by (accepted output) h = (output, refl)
