-- Words that wrap in between and in the end: as if they wrapped in the end alone. Assumes nothing.
use Rattle.std.proofs.Common.{◌≡◌, ℕ, ◌+◌, ◌*◌, ◌%◌, ◌^◌, ◌∙◌, sym, ap}
use Rattle.std.proofs.Math.Nat.{add-mod-mod, mod-mod}
use Rattle.std.proofs.lemmas.Nat.{mul-mod_first, xor_mod}
use Rattle.std.specs.Prelude.{bit_xor}
use Rattle.city.specs.Word.{addw, mulw}

-- a product that is added
pub add-product : (k n m : ℕ) → addw k (mulw n m) ≡ addw k (n * m)
unfolding addw mulw
add-product k n m = add-mod-mod k (n * m) (2 ^ 64)

-- a sum that is multiplied
pub mul-sum : (n m k : ℕ) → mulw (addw n m) k ≡ mulw (n + m) k
unfolding addw mulw
mul-sum n m k = mul-mod_first (n + m) k (2 ^ 64)

xor_first : (x b k : ℕ) → bit_xor (x % 2 ^ k) b % 2 ^ k ≡ bit_xor x b % 2 ^ k
xor_first x b k = xor_mod (x % 2 ^ k) b k ∙ rw mod-mod (sym (xor_mod x b k))

-- a sum whose bits are turned before it is multiplied
pub mul-turned : (n m b k : ℕ) → mulw (bit_xor (addw n m) b) k ≡ mulw (bit_xor (n + m) b) k
unfolding addw mulw
mul-turned n m b k =
    sym (mul-mod_first (bit_xor ((n + m) % 2 ^ 64) b) k (2 ^ 64))
    ∙ ap (λ (x : ℕ). x * k % 2 ^ 64) (xor_first (n + m) b 64)
    ∙ mul-mod_first (bit_xor (n + m) b) k (2 ^ 64)
