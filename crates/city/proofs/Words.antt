-- Products by halves and turns of bits, over the widths, and bytes in the other order. Assumes nothing.
use Rattle.std.proofs.Common.{◌≡◌, ℕ, ◌+◌, ◌-◌, ◌*◌, ◌/◌, ◌%◌, ◌^◌, ◌<◌, ◌≤◌, sym, ap, ◌∙◌, subst, ap₂, arith, lt_of_le_of_lt, le_of_lt, add_assoc, mod-lt, mod-eq_of_lt, mul_assoc, mul_comm, add-mul, add-sub_of_le, add_comm, mul-le-mul_left, div-add-mod', mul-add, mul_left_comm, pow_pos, pow-add, shl_lt, shr_lt}
use native.Mathlib.Nat.{add_left_comm, mul-add-mod_self_right, mod-add-mod, div-div-eq-div-mul}
use lib.Pow.{split}
use lib.Bits.{bit_or, bit_and, and_mask, or_shifted_r}
use Rattle.std.specs.Int.{w64, rotate_right, swap_bytes}
use Rattle.city.specs.Word.{mulw, rotr, swap}

-- a number of s bits times one of t bits has at most s + t
pub mul-lt_pow : {a b : ℕ} (s t : ℕ) → a < 2 ^ s → b < 2 ^ t → a * b < 2 ^ (s + t)
mul-lt_pow {a} s t ha hb = lt_of_le_of_lt (mul-le-mul_left a (le_of_lt hb)) (shl_lt s t ha)

-- a factor may be cut to the modulus first
mul_mod_cut : (m P N : ℕ) → (m % N) * P % N ≡ m * P % N
mul_mod_cut m P N =
    sym (mul-add-mod_self_right (m / N * P) N (m % N * P))
    ∙ ap (λ (x : ℕ). x % N) (regroup (m / N) (m % N) ∙ ap (λ (x : ℕ). x * P) (div-add-mod' m N))
  where
    regroup : (q r : ℕ) → q * P * N + r * P ≡ (q * N + r) * P
    regroup q r = simp (add-mul, mul_assoc, mul_comm, mul_left_comm)

-- in base P, the product of the upper digits is a multiple of P P
columns : (P a0 a1 b0 b1 : ℕ) → (a1 * P + a0) * (b1 * P + b0) ≡ a1 * b1 * (P * P) + ((a1 * b0 + a0 * b1) * P + a0 * b0)
columns P a0 a1 b0 b1 = simp (mul-add, add-mul, mul_assoc, mul_comm, mul_left_comm, add_assoc, add_comm, add_left_comm)

halves_mod : (P a0 a1 b0 b1 : ℕ) → ((((a1 * b0 + a0 * b1) % (P * P)) * P) % (P * P) + a0 * b0) % (P * P) ≡ (a1 * P + a0) * (b1 * P + b0) % (P * P)
halves_mod P a0 a1 b0 b1 =
    ap (λ (x : ℕ). (x + a0 * b0) % (P * P)) (mul_mod_cut (a1 * b0 + a0 * b1) P (P * P))
    ∙ mod-add-mod ((a1 * b0 + a0 * b1) * P) (P * P) (a0 * b0)
    ∙ sym (mul-add-mod_self_right (a1 * b1) (P * P) ((a1 * b0 + a0 * b1) * P + a0 * b0))
    ∙ ap (λ (x : ℕ). x % (P * P)) (sym (columns P a0 a1 b0 b1))

-- what `mul` computes
pub mul_law : (a b : ℕ) →
    ((((a / 2 ^ 32 * bit_and b 0xffff_ffff + bit_and a 0xffff_ffff * (b / 2 ^ 32)) % 2 ^ 64) * 2 ^ 32) % 2 ^ 64 + bit_and a 0xffff_ffff * bit_and
    b 0xffff_ffff) % 2 ^ 64 ≡ mulw a b
unfolding mulw
mul_law a b =
    ap₂ (λ (x y : ℕ). ((((a / 2 ^ 32 * y + x * (b / 2 ^ 32)) % 2 ^ 64) * 2 ^ 32) % 2 ^ 64 + x * y) % 2 ^ 64) (and_mask a 32) (and_mask b 32)
    ∙ halves_mod (2 ^ 32) (a % 2 ^ 32) (a / 2 ^ 32) (b % 2 ^ 32) (b / 2 ^ 32)
    ∙ ap₂ (λ (x y : ℕ). x * y % 2 ^ 64) (split a 32) (split b 32)

-- `x << j` at k + j bits keeps the k low bits
shl_cut : (k j x : ℕ) → (x * 2 ^ j) % 2 ^ (k + j) ≡ x % 2 ^ k * 2 ^ j
shl_cut k j x =
    ap₂ (λ (y n : ℕ). y * 2 ^ j % n) (sym (split x k)) (pow-add 2 k j)
    ∙ ap (λ (y : ℕ). y % (2 ^ k * 2 ^ j)) (regroup (x / 2 ^ k) (x % 2 ^ k) (2 ^ k) (2 ^ j))
    ∙ mul-add-mod_self_right (x / 2 ^ k) (2 ^ k * 2 ^ j) (x % 2 ^ k * 2 ^ j)
    ∙ mod-eq_of_lt (rw (← pow-add 2 k j) (shl_lt k j (mod-lt x (pow_pos k))))
  where
    regroup : (q r m n : ℕ) → (q * m + r) * n ≡ q * (m * n) + r * n
    regroup q r m n = simp (add-mul, mul_assoc)

turned : (k j x : ℕ) → x < 2 ^ (j + k) → bit_or (x / 2 ^ k) ((x * 2 ^ j) % 2 ^ (k + j)) ≡ x % 2 ^ k * 2 ^ j + x / 2 ^ k
turned k j x h = rw (shl_cut k j x) (or_shifted_r (x % 2 ^ k) j (x / 2 ^ k) (shr_lt j k h))

-- what `rotate` computes
pub rotr_law : (k x : ℕ) → k ≤ 64 → x < 2 ^ 64 → bit_or (x / 2 ^ k) ((x * 2 ^ (64 - k)) % 2 ^ 64) ≡ rotr k x
unfolding rotr
rotr_law k x l h =
    let whole : k + (64 - k) ≡ 64 = add-sub_of_le l in
    let whole' : (64 - k) + k ≡ 64 = add_comm (64 - k) k ∙ whole in
    subst (λ (n : ℕ). bit_or (x / 2 ^ k) ((x * 2 ^ (64 - k)) % 2 ^ n) ≡ x % 2 ^ k * 2 ^ (64 - k) + x / 2 ^ k) whole
    (turned k (64 - k) x (rw whole' h))

-- what `rotate_right` computes, of a turn that is no whole one
pub rotate-is : (k x : ℕ) → 0 < k → k < 64 → rotate_right w64 x k ≡ bit_or (x / 2 ^ k) ((x * 2 ^ (64 - k)) % 2 ^ 64)
rotate-is k x l h = let m : 64 - k < 64 = omega arith in rw (mod-eq_of_lt h, mod-eq_of_lt m)

-- what `swap_bytes` computes
pub swap_8 : (x : ℕ) → swap_bytes w64 x ≡ swap 8 x
unfolding swap
swap_8 x = simp div-div-eq-div-mul (omega arith)
