-- Texts and records from a place on, for loops: none left, or one and those behind it.
use Rattle.std.specs.Prelude.{◌≡◌, List, [], ◌∷◌, length}
use Rattle.std.proofs.Math.Path.{refl}
use Rattle.std.proofs.Common.{ap, arith}
use Prim.Native.Nat.{ℕ, zero, suc, ◌+◌, ◌-◌, ◌≤◌, ◌<◌}
use Rattle.std.proofs.Math.Numerals.{sub-one}
use Rattle.base.specs.ReadingRows.{cells}
use Rattle.written.specs.HeaderBytes.{imported_texts}
use Rattle.header.specs.Places.{text_at, next_text, text_place, texts_from, imported_at, imported_from}

module _ (more : ℕ) (s : List ℕ) where
  pub place-next : (n at : ℕ) → 0 < n → text_place more s at n ≡ text_place more s (next_text more s at) (n - 1)
  unfolding text_place
  place-next zero at h = absurd (omega arith)
  place-next (suc n) at h = rw sub-one

  pub texts-none : (n at : ℕ) → n ≤ 0 → texts_from more s at n ≡ []
  unfolding texts_from
  texts-none zero at h = refl
  texts-none (suc n) at h = absurd (omega arith)

  pub texts-next : (n at : ℕ) → 0 < n → texts_from more s at n ≡ text_at s at ∷ texts_from more s (next_text more s at) (n - 1)
  unfolding texts_from
  texts-next zero at h = absurd (omega arith)
  texts-next (suc n) at h = rw sub-one

pub texts-count : (more : ℕ) (s : List ℕ) (n at : ℕ) → length (texts_from more s at n) ≡ n
unfolding texts_from
texts-count more s zero at = refl
texts-count more s (suc n) at = ap suc (texts-count more s n (next_text more s at))

-- imported names: their texts, and the number behind each
pub imported_texts_lem : (s : List ℕ) (n at : ℕ) → imported_texts (imported_from s at n) ≡ texts_from 4 s at n
unfolding imported_from imported_at texts_from
imported_texts_lem s zero at = refl
imported_texts_lem s (suc n) at = ap (λ ts. text_at s at ∷ ts) (imported_texts_lem s n (next_text 4 s at))

pub imported-none : (s : List ℕ) (n at : ℕ) → n ≤ 0 → imported_from s at n ≡ []
unfolding imported_from
imported-none s zero at h = refl
imported-none s (suc n) at h = absurd (omega arith)

pub imported-next : (s : List ℕ) (n at : ℕ) → 0 < n → imported_from s at n ≡ imported_at s at ∷ imported_from s (next_text 4 s at) (n - 1)
unfolding imported_from
imported-next s zero at h = absurd (omega arith)
imported-next s (suc n) at h = rw sub-one

-- records of one size, as exports and hashes are
module _ {A : Type 0} (f : ℕ → A) (size : ℕ) where
  pub cells-none : (n at : ℕ) → n ≤ 0 → cells f size at n ≡ []
  cells-none zero at h = refl
  cells-none (suc n) at h = absurd (omega arith)

  pub cells-next : (n at : ℕ) → 0 < n → cells f size at n ≡ f at ∷ cells f size (at + size) (n - 1)
  cells-next zero at h = absurd (omega arith)
  cells-next (suc n) at h = rw sub-one
