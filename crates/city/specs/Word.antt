-- Arithmetic on words of 64 bits (document 01: "arithmetic wraps at 64 bits"). Assumes nothing.
use Rattle.std.specs.Prelude.{ℕ, zero, suc, ◌+◌, ◌-◌, ◌*◌, ◌/◌, ◌%◌, ◌^◌}

unfoldable pub addw : ℕ → ℕ → ℕ
addw a b = (a + b) % 2 ^ 64

unfoldable pub mulw : ℕ → ℕ → ℕ
mulw a b = a * b % 2 ^ 64

-- x turned right by k bits: the k low bits go to the top
unfoldable pub rotr : ℕ → ℕ → ℕ
rotr k x = x % 2 ^ k * 2 ^ (64 - k) + x / 2 ^ k

-- the bytes of a word of k bytes in the other order
unfoldable pub swap : ℕ → ℕ → ℕ
swap zero x = 0
swap (suc k) x = x % 256 * 256 ^ k + swap k (x / 256)
