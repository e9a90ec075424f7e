-- The bytes of a word in the other order: by halves, and as shifts and masks put them. Assumes nothing.
use Rattle.std.proofs.Common.{◌≡◌, ℕ, zero, suc, ◌+◌, ◌*◌, ◌/◌, ◌%◌, ◌^◌, ◌<◌, sym, refl, ap, ◌∙◌, ap₂, add_assoc, mod-lt, zero-lt-suc, mul_assoc, mul_comm, add-mul, add_comm, suc-add, pow-suc, zero-add, zero-mul, div-one, arith, pow-add, shr-shr}
use native.Mathlib.Nat.{one-le-pow, div-div-eq-div-mul}
use lib.Arith.{digits_div, digits_mod, mod-mul}
use lib.Bits.{bit_and, bit_or, and_mask}
use Rattle.base.proofs.Joined.{or_4}
use Rattle.city.specs.Word.{swap}

pos : (k : ℕ) → zero < 256 ^ k
pos k = one-le-pow k 256 (zero-lt-suc 255)

swap-suc : (k m x : ℕ) → swap (k + m) (x / 256) ≡ swap k (x / 256) * 256 ^ m + swap m (x / 256 / 256 ^ k)
    → swap (suc k + m) x ≡ swap (suc k) x * 256 ^ m + swap m (x / 256 ^ suc k)
unfolding swap
swap-suc k m x e =
    ap (λ (n : ℕ). swap n x) (suc-add k m)
    ∙ ap₂ (λ (p y : ℕ). x % 256 * p + y) (pow-add 256 k m) e
    ∙ regroup (x % 256) (256 ^ k) (256 ^ m) (swap k (x / 256)) (swap m (x / 256 / 256 ^ k))
    ∙ ap (λ (n : ℕ). (x % 256 * 256 ^ k + swap k (x / 256)) * 256 ^ m + swap m n)
    (div-div-eq-div-mul x 256 (256 ^ k) ∙ ap (λ (n : ℕ). x / n) (mul_comm 256 (256 ^ k) ∙ sym (pow-suc 256 k)))
  where
    regroup : (d p q a b : ℕ) → d * (p * q) + (a * q + b) ≡ (d * p + a) * q + b
    regroup d p q a b = simp (add-mul, mul_assoc, add_assoc)

swap-zero : (m x : ℕ) → swap (0 + m) x ≡ swap 0 x * 256 ^ m + swap m (x / 256 ^ 0)
unfolding swap
swap-zero m x = rw (zero-add m, zero-mul (256 ^ m), zero-add, div-one x)

-- k low bytes and then m
pub swap_add : (k m x : ℕ) → swap (k + m) x ≡ swap k x * 256 ^ m + swap m (x / 256 ^ k)
swap_add zero m x = swap-zero m x
swap_add (suc k) m x = swap-suc k m x (swap_add k m (x / 256))

-- only the k low bytes count
pub swap_mod : (k x : ℕ) → swap k (x % 256 ^ k) ≡ swap k x
unfolding swap
swap_mod zero x = refl
swap_mod (suc k) x =
    ap (λ (n : ℕ). n % 256 * 256 ^ k + swap k (n / 256)) (ap (λ (n : ℕ). x % n) (pow-suc 256 k) ∙ mod-mul x (pos k) (pos 1))
    ∙ ap₂ (λ (d n : ℕ). d * 256 ^ k + swap k n) (digits_mod (x / 256 % 256 ^ k) (mod-lt x (pos 1))) (digits_div (x / 256 % 256 ^ k) (mod-lt x (pos 1)))
    ∙ ap (λ (n : ℕ). x % 256 * 256 ^ k + n) (swap_mod k (x / 256))

-- a word by its halves
pub swap-halves : (x : ℕ) → swap 4 (x / 2 ^ 32) + swap 4 (x % 2 ^ 32) * 2 ^ 32 ≡ swap 8 x
swap-halves x = rw (swap_mod 4 x, swap_add 4 4 x) (add_comm (swap 4 (x / 2 ^ 32)) (swap 4 x * 2 ^ 32))

sums : (x : ℕ) → x < 2 ^ 32 → x / 2 ^ 24 + x / 2 ^ 16 % 2 ^ 8 * 256 + x / 2 ^ 8 % 2 ^ 8 * 256 ^ 2 + x % 2 ^ 8 * 256 ^ 3 ≡ swap 4 x
unfolding swap
sums x h = rw (shr-shr x 8 8, shr-shr x 16 8) (omega arith)

low : (x : ℕ) → x % 2 ^ 8 < 2 ^ 8
low x = omega arith

top : (x : ℕ) → x < 2 ^ 32 → x / 2 ^ 24 < 2 ^ 8
top x h = omega arith

-- what `swap32` computes
pub swap_4 : (x : ℕ) → x < 2 ^ 32
    → bit_or (bit_or (bit_or ((bit_and x 0xff * 2 ^ 24) % 2 ^ 32) ((bit_and (x / 2 ^ 8) 0xff * 2 ^ 16) % 2 ^ 32))
    ((bit_and (x / 2 ^ 16) 0xff * 2 ^ 8) % 2 ^ 32)) (x / 2 ^ 24) ≡ swap 4 x
swap_4 x h =
    rw (and_mask x 8, and_mask (x / 2 ^ 8) 8, and_mask (x / 2 ^ 16) 8)
    (or_4 (x / 2 ^ 24) (x / 2 ^ 16 % 2 ^ 8) (x / 2 ^ 8 % 2 ^ 8) (x % 2 ^ 8) (top x h) (low (x / 2 ^ 16)) (low (x / 2 ^ 8)) (low x) ∙ sums x h)
