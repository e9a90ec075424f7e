-- Laws of two's complement: exactly when it is negative, its values at the edges of the sign, and its size. Assumes nothing.
use Rattle.std.specs.Prelude.{◌≡◌, refl, Bool, true, false, ltb, leb, ℤ, negsuc, neg_ℤ, ◌-ℤ◌}
use Rattle.std.proofs.Common.{sym, ◌∙◌, pow-suc, arith, le-leb, lt-ltb, le-ltb, ltb-true, ltb-false}
use Rattle.std.proofs.Math.Path.{ap}
use Rattle.std.proofs.Math.Bool.{cond}
use Rattle.std.proofs.Math.Logic.{⊎_elim}
use Prim.Native.Nat.{ℕ, zero, suc, ◌-◌, ◌*◌, ◌^◌, ◌≤◌, ◌<◌}
use Rattle.std.proofs.Math.IntN.{pos}
use Rattle.std.specs.Int.Signed.{lt_z, non_neg}
use Rattle.std.proofs.lemmas.Bool.{lt-leb}
use Rattle.base.specs.Choose.{lt_or_le}
use Rattle.base.specs.Signed.{twos}
use Rattle.base.specs.SignedSize.{size_of, size_in}
use Rattle.std.specs.Prelude.{Some, None}

-- n less a larger N
below : (n N : ℕ) → n < N → pos n -ℤ pos N ≡ negsuc (N - suc n)
below n zero h = absurd (omega arith)
below n (suc N) h = ap (λ (b : Bool). cond b (negsuc (suc N - suc n)) (pos (n - suc N))) (lt-ltb n (suc N) h)

-- ---- the value and its sign, of k + 1 bits
module _ (k n : ℕ) where
  half : (b : Bool) → ltb (n * 2) (2 ^ suc k) ≡ b → twos (suc k) n ≡ cond b (pos n) (pos n -ℤ pos (2 ^ suc k))
  unfolding twos
  half b e = ap (λ (t : Bool). cond t (pos n) (pos n -ℤ pos (2 ^ suc k))) e

  -- below 2 ^ k the number itself
  pub twos-low : n < 2 ^ k → twos (suc k) n ≡ pos n
  twos-low l = half true (lt-ltb (n * 2) (2 ^ suc k) (rw (pow-suc 2 k) (omega arith)))

  -- from 2 ^ k on a negative number
  pub twos-high : 2 ^ k ≤ n → n < 2 ^ suc k → twos (suc k) n ≡ negsuc (2 ^ suc k - suc n)
  twos-high l m = half false (le-ltb (n * 2) (2 ^ suc k) (rw (pow-suc 2 k) (omega arith))) ∙ below n (2 ^ suc k) m

module _ (k n : ℕ) (fits : n < 2 ^ suc k) where
  -- not negative exactly below 2 ^ k
  pub non_neg-twos : non_neg (twos (suc k) n) ≡ ltb n (2 ^ k)
  non_neg-twos =
      ⊎_elim (λ (l : n < 2 ^ k). ap non_neg (twos-low k n l) ∙ sym (lt-ltb n (2 ^ k) l))
      (λ (l : 2 ^ k ≤ n). ap non_neg (twos-high k n l fits) ∙ sym (le-ltb n (2 ^ k) l))
      (lt_or_le n (2 ^ k))

  -- the same, by the test `z < 0`
  pub negative-twos : lt_z (twos (suc k) n) (pos 0) ≡ leb (2 ^ k) n
  negative-twos =
      ⊎_elim (λ (l : n < 2 ^ k). ap (λ (z : ℤ). lt_z z (pos 0)) (twos-low k n l) ∙ le-ltb n 0 (omega arith) ∙ sym (lt-leb (2 ^ k) n l))
      (λ (l : 2 ^ k ≤ n). ap (λ (z : ℤ). lt_z z (pos 0)) (twos-high k n l fits) ∙ sym (le-leb (2 ^ k) n l))
      (lt_or_le n (2 ^ k))

  -- not negative: below 2 ^ k
  pub non_neg-lt : non_neg (twos (suc k) n) ≡ true → n < 2 ^ k
  non_neg-lt e = ltb-true n (2 ^ k) (sym non_neg-twos ∙ e)

  -- negative: from 2 ^ k on
  pub negative-le : non_neg (twos (suc k) n) ≡ false → 2 ^ k ≤ n
  negative-le e = ltb-false n (2 ^ k) (sym non_neg-twos ∙ e)

  -- the value where it is not negative
  pub non_neg-is : non_neg (twos (suc k) n) ≡ true → twos (suc k) n ≡ pos n
  non_neg-is e = twos-low k n (non_neg-lt e)

  -- the two ways to say the size are one
  pub size-twos : size_of (twos (suc k) n) ≡ size_in (suc k) n
  unfolding size_in
  size-twos =
      ⊎_elim (λ (l : n < 2 ^ k). rw (twos-low k n l)) (λ (l : 2 ^ k ≤ n). rw (twos-high k n l fits)) (lt_or_le n (2 ^ k))

-- ---- what a size that came out says

-- a size: the number is not negative, and the size is n
pub size_is : (k n m : ℕ) → size_in k n ≡ Some m → (non_neg (twos k n) ≡ true) × (m ≡ n)
unfolding size_in
size_is k n m e = go (non_neg (twos k n)) e
  where
    go : (b : Bool) → cond b (Some n) None ≡ Some m → (b ≡ true) × (m ≡ n)
    go true e = (refl, cc)
    go false e = (cc, cc)

-- none: the number is negative
pub size_none : (k n : ℕ) → size_in k n ≡ None → non_neg (twos k n) ≡ false
unfolding size_in
size_none k n e = go (non_neg (twos k n)) e
  where
    go : (b : Bool) → cond b (Some n) None ≡ None → b ≡ false
    go true e = cc
    go false e = refl

-- ---- the edges of the sign

-- 2 ^ 31 - 1 is itself
pub twos_32_greatest : twos 32 (2 ^ 31 - 1) ≡ pos (2 ^ 31 - 1)
unfolding twos
twos_32_greatest = refl

-- 2 ^ 31 is the least number
pub twos_32_least : twos 32 (2 ^ 31) ≡ neg_ℤ (pos (2 ^ 31))
unfolding twos
twos_32_least = refl

-- 2 ^ 32 - 1 is -1
pub twos_32_last : twos 32 (2 ^ 32 - 1) ≡ neg_ℤ (pos 1)
unfolding twos
twos_32_last = refl

-- 2 ^ 63 - 1 is itself
pub twos_64_greatest : twos 64 (2 ^ 63 - 1) ≡ pos (2 ^ 63 - 1)
unfolding twos
twos_64_greatest = refl

-- 2 ^ 63 is the least number
pub twos_64_least : twos 64 (2 ^ 63) ≡ neg_ℤ (pos (2 ^ 63))
unfolding twos
twos_64_least = refl

-- 2 ^ 64 - 1 is -1
pub twos_64_last : twos 64 (2 ^ 64 - 1) ≡ neg_ℤ (pos 1)
unfolding twos
twos_64_last = refl
