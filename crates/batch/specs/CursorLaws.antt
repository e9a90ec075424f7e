-- What a read at a position says. Assumes nothing.
use Rattle.std.specs.Prelude.{◌≡◌, refl, List, ℕ, ◌+◌, ◌≤◌, ◌<◌, length, Some, None}
use Rattle.std.proofs.Common.{sym, ◌∙◌, arith}
use Rattle.std.proofs.Math.Path.{ap}
use Rattle.std.proofs.Math.Decide.{dec_le}
use Rattle.base.specs.Number.{le_at}
use Rattle.base.specs.ReadingLaws.{number-there, number_short}
use Rattle.batch.specs.Cursor.{worded, word_at, found_word, behind}

module _ (s : List ℕ) (at : ℕ) where
  -- the number is there, or it is not
  pub word-there : at + 4 ≤ length s → word_at s at ≡ Some (le_at 4 s at, at + 4)
  unfolding worded
  word-there h = ap worded (number-there 4 s at h)

  pub word-missing : length s < at + 4 → word_at s at ≡ None
  unfolding worded
  word-missing h = ap worded (number_short 4 s at h)

  -- what was found
  pub word_got : {w n : ℕ} → word_at s at ≡ Some (w, n) → (at + 4 ≤ length s) × (le_at 4 s at ≡ w) × (at + 4 ≡ n)
  word_got q = go (dec_le (at + 4) (length s)) q
    where
      go : {w n : ℕ} → Dec (at + 4 ≤ length s) → word_at s at ≡ Some (w, n) → (at + 4 ≤ length s) × (le_at 4 s at ≡ w) × (at + 4 ≡ n)
      go {w} {n} (yes h) q =
          let e = sym (word-there h) ∙ q in
          let z : (le_at 4 s at, at + 4) ≡ (w, n) = cc in
          (h, ap (λ (x : ℕ × ℕ). x.0) z, ap (λ (x : ℕ × ℕ). x.1) z)
      go (no h) q = absurd (let e = sym (word-missing (omega arith)) ∙ q in let z : ◌≡◌ {A = ℕ} 0 1 = cc in omega arith)

  pub word-short : word_at s at ≡ None → length s < at + 4
  word-short q = go (dec_le (at + 4) (length s)) q
    where
      go : Dec (at + 4 ≤ length s) → word_at s at ≡ None → length s < at + 4
      go (yes h) q = absurd (let e = sym (word-there h) ∙ q in let z : ◌≡◌ {A = ℕ} 0 1 = cc in omega arith)
      go (no h) q = omega arith

-- the position behind what was found
pub behind-got : (w n at : ℕ) → behind (Some (w, n)) at ≡ n
unfolding behind
behind-got w n at = refl

-- by the number alone: it is there, and the read goes behind it; or it is not, and the read stays
module _ (s : List ℕ) (at : ℕ) where
  pub word_found : {w : ℕ} → found_word (word_at s at) ≡ Some w → (at + 4 ≤ length s) × (le_at 4 s at ≡ w) × (behind (word_at s at) at ≡ at + 4)
  unfolding found_word behind
  word_found {w} q = go (dec_le (at + 4) (length s))
    where
      go : Dec (at + 4 ≤ length s) → (at + 4 ≤ length s) × (le_at 4 s at ≡ w) × (behind (word_at s at) at ≡ at + 4)
      go (yes h) = let e = rw (word-there s at h) at q in (h, cc, rw (word-there s at h))
      go (no h) = absurd (let e = rw (word-missing s at (omega arith)) at q in let z : ◌≡◌ {A = ℕ} 0 1 = cc in omega arith)

  pub word-lost : found_word (word_at s at) ≡ None → (length s < at + 4) × (behind (word_at s at) at ≡ at)
  unfolding found_word behind
  word-lost q = go (dec_le (at + 4) (length s))
    where
      go : Dec (at + 4 ≤ length s) → (length s < at + 4) × (behind (word_at s at) at ≡ at)
      go (yes h) = absurd (let e = rw (word-there s at h) at q in let z : ◌≡◌ {A = ℕ} 0 1 = cc in omega arith)
      go (no h) = (omega arith, rw (word-missing s at (omega arith)))
