-- Question 29 at its edges, computed (document 02, Q-5: "It refuses with 29, before the corpus is looked at, a lookup limit of 0 or above 64 or an
-- object limit of 0 or above 65"). Assumes nothing.
use Rattle.std.specs.Prelude.{◌≡◌, List, [], ◌∷◌, ◌++◌, ℕ, replicate}
use Rattle.meaning.specs.Resolve.{limits_of}
use Rattle.meaning.specs.Call.{refused_in, accepted}
use Rattle.meaning.specs.Limited.{outcome_within}
use Rattle.meaning.specs.Written.{corpus_of, reported}
use Rattle.meaning.specs.Examples.{least, two_objects, with_tone, tone_row, last_of, derived}
use Rattle.meaning.specs.RowExamples.{tone}
use Rattle.meaning.specs.RoomExamples.{within}

-- the report on document 01's least corpus
abbrev pub least_report : List ℕ
least_report = 0 ∷ 0 ∷ 0 ∷ 5 ∷ 1 ∷ 0 ∷ 0 ∷ 0 ∷ 0 ∷ []

-- two classes, the second derived from the first, and what has the first and the second for its class
abbrev pub two_classes : List ℕ
two_classes = corpus_of two_objects (with_tone (derived 2 ++ tone (last_of 1) ∷ []) (last_of 2))

pub record RangeExamples : Type 0 where
  -- "a lookup limit of 0 or above 64"
  pub lookups_0 : within 0 65 (least 1) ≡ refused_in 29 0
  pub lookups_1 : within 1 65 (least 1) ≡ accepted least_report
  pub lookups_64 : within 64 65 (least 1) ≡ accepted least_report
  pub lookups_65 : within 65 65 (least 1) ≡ refused_in 29 0
  pub lookups-most : within 4294967295 65 (least 1) ≡ refused_in 29 0
  -- "or an object limit of 0 or above 65"
  pub objects_0 : within 64 0 (least 1) ≡ refused_in 29 0
  pub objects_1 : within 64 1 (least 1) ≡ accepted least_report
  pub objects_66 : within 64 66 (least 1) ≡ refused_in 29 0
  pub objects-most : within 64 4294967295 (least 1) ≡ refused_in 29 0
  -- the least of both: a class of a native class without an outer is known, one class more is not
  pub one-one :
      within 1 1 two_classes ≡ accepted (reported "P" 4 (tone_row 4 1 1 "P.C" "Speaker" "export:C" ∷ tone_row 4 1 0 "P.C" "?" "export:C" ∷ []))
  -- "before the corpus is looked at": what fails 1 or 2
  pub no_corpus : within 0 65 [] ≡ refused_in 29 0
  pub no_corpus_1 : within 1 1 [] ≡ refused_in 1 0
  pub version_29 : within 64 66 (least 2) ≡ refused_in 29 0
  pub version_2 : within 64 65 (least 2) ≡ refused_in 2 0
  -- the number, and the buffer as it was
  pub refused-outcome :
      outcome_within (limits_of 0 65) (least 1) [] (replicate 9 7) ≡ record { number = 0x8000_001D_0000_0000; report = replicate 9 7 }
