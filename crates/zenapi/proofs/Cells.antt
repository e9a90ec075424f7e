-- Numbers by place, where there is one. Assumes nothing.
use mathlib.Core.Path.{◌≡◌, refl, sym}
use mathlib.Core.List.{List, [], ◌∷◌, map}
use Prim.Native.Nat.{ℕ, zero, suc, ◌≤◌, ◌<◌}
use native.Mathlib.Omega.{arith}
use lib.ListN.{length, get_or, get_or-eq_default}
use Rattle.zenapi.specs.Answers.{none, cell}

-- past the end, and not past it
pub past : (xs : List ℕ) (k : ℕ) → length xs ≤ k → none ≡ get_or xs k none
past xs k h = sym (get_or-eq_default xs none h)

pub any_default : (xs : List ℕ) (i d e : ℕ) → i < length xs → get_or xs i d ≡ get_or xs i e
any_default [] i d e h = absurd (omega arith)
any_default (x ∷ xs) zero d e h = refl
any_default (x ∷ xs) (suc i) d e h = any_default xs i d e (omega arith)

module _ {A : Type 0} (f : A → List ℕ) where
  map_at : (xs : List A) (i : ℕ) (d : A) → i < length xs → get_or (map f xs) i [] ≡ f (get_or xs i d)
  map_at [] i d h = absurd (omega arith)
  map_at (x ∷ xs) zero d h = refl
  map_at (x ∷ xs) (suc i) d h = map_at xs i d (omega arith)

  map-past : (xs : List A) (i : ℕ) → length xs ≤ i → get_or (map f xs) i [] ≡ []
  map-past [] i h = refl
  map-past (x ∷ xs) zero h = absurd (omega arith)
  map-past (x ∷ xs) (suc i) h = map-past xs i (omega arith)

  -- a row that is there, and one that is not
  pub cell_at : (xs : List A) (i : ℕ) (d : A) (k : ℕ) {r : ℕ} {x : A} → i < length xs → x ≡ get_or xs i d → r ≡ get_or (f x) k none → r ≡ cell (map f xs) i k
  unfolding cell
  cell_at xs i d k h e q = rw (map_at xs i d h, ← e) q

  pub cell-past : (xs : List A) (i k : ℕ) → length xs ≤ i → none ≡ cell (map f xs) i k
  unfolding cell
  cell-past xs i k h = rw (map-past xs i h)
