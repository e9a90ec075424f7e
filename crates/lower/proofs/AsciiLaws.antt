-- Laws of lowering A to Z: what it changes and what it leaves alone. Assumes nothing.
use Rattle.std.specs.Prelude.{◌≡◌, refl, Bool, true, false, cond, ◌&&◌, ◌⊎◌, ℕ, ◌+◌, ◌≤◌, ◌<◌, leb}
use Rattle.std.proofs.Math.Bool.{and-eq-true_iff}
use Rattle.std.proofs.Common.{inl, inr, arith, le-leb, leb-true}
use Rattle.std.proofs.lemmas.Bool.{lt-leb}
use Rattle.lower.specs.Ascii.{lower_ascii}

pub ascii-below : (c : ℕ) → c < 65 → lower_ascii c ≡ c
unfolding lower_ascii
ascii-below c h = rw (lt-leb _ _ h)

pub ascii-above : (c : ℕ) → 90 < c → lower_ascii c ≡ c
unfolding lower_ascii
ascii-above c h = let a : 65 ≤ c = omega arith in rw (le-leb _ _ a, lt-leb _ _ h)

pub ascii_letter : (c : ℕ) → 65 ≤ c → c ≤ 90 → lower_ascii c ≡ c + 32
unfolding lower_ascii
ascii_letter c a h = rw (le-leb _ _ a, le-leb _ _ h)

-- either c is a letter A to Z, or it stays
pub ascii-cases : (c : ℕ) → ((c ≤ 90) × (lower_ascii c ≡ c + 32)) ⊎ (lower_ascii c ≡ c)
unfolding lower_ascii
ascii-cases c = go (leb 65 c && leb c 90) refl
  where
    go : (b : Bool) → leb 65 c && leb c 90 ≡ b → ((c ≤ 90) × (cond b (c + 32) c ≡ c + 32)) ⊎ (cond b (c + 32) c ≡ c)
    go true e = inl (leb-true c 90 ((and-eq-true_iff (leb 65 c) (leb c 90)).0 e).1, refl)
    go false e = inr refl

-- a unit stays one
pub ascii-unit : (c : ℕ) → c < 65536 → lower_ascii c < 65536
ascii-unit c h = go (ascii-cases c)
  where
    go : ((c ≤ 90) × (lower_ascii c ≡ c + 32)) ⊎ (lower_ascii c ≡ c) → lower_ascii c < 65536
    go (inl w) = omega arith
    go (inr w) = omega arith
