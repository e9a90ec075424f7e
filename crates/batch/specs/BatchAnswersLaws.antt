-- What the code's answers about a batch say of the readings that they come from.
use Rattle.std.specs.Prelude.{◌≡◌, List, ◌∷◌, ℕ, zero, suc, ◌-◌, ◌≤◌, ◌<◌, Ok, Err}
use Rattle.std.proofs.Math.Path.{refl}
use Rattle.std.proofs.Common.{◌∙◌, arith, sub-one}
use Rattle.base.specs.Never.{never}
use Rattle.base.specs.Reading.{Got, bad, got, Reading, walk, rows}
use Rattle.base.specs.ReadingRows.{map_got, rows-zero, rows-suc}
use Rattle.batch.specs.Batch.{Batch}
use Rattle.batch.specs.BatchAnswers.{batched, checked}

-- a check: passed, or the question
module _ {A : Type 0} where
  pub checked-passed : (g : Got A) → checked g ≡ Ok tt → (a : A) × (n : ℕ) × (g ≡ got a n)
  unfolding checked
  checked-passed (got a n) q = (a, n, refl)
  checked-passed (bad r) q = never (cc)

  pub checked-failed : (g : Got A) {r : ℕ} → checked g ≡ Err r → g ≡ bad r
  unfolding checked
  checked-failed (got a m) q = never (cc)
  checked-failed (bad r) q = cc

  pub checked-got : {g : Got A} {a : A} {n : ℕ} → g ≡ got a n → checked g ≡ Ok tt
  unfolding checked
  checked-got q = rw q

  pub checked-bad : {g : Got A} {r : ℕ} → g ≡ bad r → checked g ≡ Err r
  unfolding checked
  checked-bad q = rw q

module _ {A B : Type 0} where
  pub checked-map : (g : Got A) (f : A → B) → checked (map_got f g) ≡ checked g
  unfolding checked
  checked-map (got a m) f = refl
  checked-map (bad r) f = refl

-- a batch (that one was found: FoundBatch)
pub batched-refused : (g : Got Batch) {r : ℕ} → batched g ≡ Err r → g ≡ bad r
unfolding batched
batched-refused (got a k) q = never (cc)
batched-refused (bad r) q = cc

-- a check of records one after another, from one on: none is left; one is read; one is refused
module _ {A : Type 0} (p : Reading A) (s : List ℕ) where
  pub rows_none : (k at : ℕ) → k ≤ 0 → checked (walk (rows k p) s at) ≡ Ok tt
  rows_none zero at l = checked-got (rows-zero p s at)
  rows_none (suc k) at l = absurd (omega arith)

  pub rows_pass : (k at : ℕ) {a : A} {m : ℕ} → 0 < k → walk p s at ≡ got a m → checked (walk (rows k p) s at) ≡ checked (walk (rows (k - 1) p) s m)
  rows_pass zero at l q = absurd (omega arith)
  rows_pass (suc k) at {a} {m} l q = rw (rows-suc p k s at, q, sub-one) (checked-map (walk (rows k p) s m) (λ xs. a ∷ xs))

  pub rows_fail : (k at : ℕ) {r : ℕ} → 0 < k → walk p s at ≡ bad r → checked (walk (rows k p) s at) ≡ Err r
  rows_fail zero at l q = absurd (omega arith)
  rows_fail (suc k) at l q = checked-bad (rows-suc p k s at ∙ rw q)
