-- The imported names by position (questions 3, 10 and 22).
use Rattle.std.specs.Prelude.{◌≡◌, List, ℕ, ◌+◌, ◌*◌, ◌-◌, ◌≤◌, ◌<◌, ltb, eqb, length, Err}
use Rattle.std.proofs.Common.{◌∙◌}
use Rattle.base.specs.Choose.{pick}
use Rattle.base.specs.Reading.{bad, got, walk, rows}
use Rattle.base.specs.ReadingLaws.{ask-is, pick_cong, then-walk, then-bad, number-there, number_short}
use Rattle.base.specs.ReadingRows.{cells, rows-there, rows_short}
use Rattle.base.specs.Number.{le_at}
use Rattle.batch.specs.Batch.{u32, batch}
use Rattle.batch.specs.BatchAnswers.{batched}
use Rattle.batch.specs.FoundBatch.{FoundAt}
use Rattle.batch.specs.BatchAnswersLaws.{batched-refused}
use Rattle.batch.specs.declared.names.Names.{Names}
use Rattle.zen.specs.Zen.{imports}

-- the imported names, by their questions
module _ (s : List ℕ) (at index count : ℕ) where
  pub imports-refused : {r : ℕ} → batched (walk batch s at) ≡ Err r → walk (imports index count) s at ≡ bad r
  unfolding imports
  imports-refused q = then-bad batch _ s at (batched-refused (walk batch s at) q)

  module _ (n : Names) (f : FoundAt s at n) where
    pub imports-short : length s < n.«end» + 4 * n.count → walk (imports index count) s at ≡ bad 3
    unfolding imports
    imports-short l =
        then-walk batch _ s at f.is
        ∙ then-bad (rows n.count u32) _ s n.«end»
        (rows_short u32 s (le_at 4 s) 4 (number-there 4 s) (number_short 4 s) n.count n.«end» f.inside l)

    pub imports-is : n.«end» + 4 * n.count ≤ length s
        → walk (imports index count) s at
        ≡ pick (eqb (length s - (n.«end» + 4 * n.count)) 0)
        (pick (ltb index count)
        (got (record { batch = record { place = n; texts = f.texts }; numbers = cells (le_at 4 s) 4 n.«end» n.count })
        (n.«end» + 4 * n.count)) (bad 10)) (bad 22)
    unfolding imports
    imports-is l =
        then-walk batch _ s at f.is
        ∙ (then-walk (rows n.count u32) _ s n.«end» (rows-there u32 s (le_at 4 s) 4 (number-there 4 s) n.count n.«end» l)
        ∙ (ask-is (eqb (length s - (n.«end» + 4 * n.count)) 0) 22 _ s (n.«end» + 4 * n.count)
        ∙ pick_cong (eqb (length s - (n.«end» + 4 * n.count)) 0) (bad 22) λ a.
        ask-is (ltb index count) 10 _ s (n.«end» + 4 * n.count)))
