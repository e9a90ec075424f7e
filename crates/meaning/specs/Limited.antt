-- The call with its limits (document 02, Q-5: "Make both limits numbers of the call"): the limits are asked about first, then all that `answer`
-- asks. Assumes nothing.
use Rattle.std.specs.Prelude.{◌≡◌, ◌⊎◌, Bool, ◌&&◌, List, ℕ, ◌≤◌, ◌<◌, leb, length}
use Rattle.meaning.specs.Resolve.{Limits}
use Rattle.meaning.specs.Call.{Answer, ◌>>◌, need, answer, number_of, buffer_after, Outcome}

-- neither "a lookup limit of 0 or above 64" nor "an object limit of 0 or above 65"
abbrev pub in_range : Limits → Bool
in_range m = leb 1 m.lookups && leb m.lookups 64 && leb 1 m.objects && leb m.objects 65

-- "It refuses with 29, before the corpus is looked at", block 0
unfoldable pub answer_within : Limits → List ℕ → ℕ → ℕ → Answer (List ℕ)
answer_within m corpus work room = do
  need (in_range m) 29 0
  answer m corpus work room

-- THE CALL with its limits: the number that it returns and what the report buffer then holds
unfoldable pub outcome_within : Limits → List ℕ → List ℕ → List ℕ → Outcome
outcome_within m corpus work old = record {
  number = number_of (answer_within m corpus (length work) (length old));
  report = buffer_after (answer_within m corpus (length work) (length old)) old;
}

-- the same as facts: the limits that a call may have, and the others
pub record InRange (m : Limits) : Type 0 where
  pub some-lookups : 1 ≤ m.lookups
  pub few-lookups : m.lookups ≤ 64
  pub some-objects : 1 ≤ m.objects
  pub few-objects : m.objects ≤ 65

abbrev pub OutOfRange : Limits → Type 0
OutOfRange m = ((m.lookups ≡ 0) ⊎ (64 < m.lookups)) ⊎ ((m.objects ≡ 0) ⊎ (65 < m.objects))
