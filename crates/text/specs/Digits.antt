-- Numbers in decimal and in hexadecimal digits. Assumes nothing.
use Rattle.std.specs.Prelude.{cond, List, [], ◌∷◌, ◌++◌, ℕ, zero, suc, ◌+◌, ◌/◌, ◌%◌, ltb}

-- n in decimal, where it has at most f digits
unfoldable pub digits : ℕ → ℕ → List ℕ
digits zero n = []
digits (suc f) n = cond (ltb n 10) ((48 + n) ∷ []) (digits f (n / 10) ++ (48 + n % 10) ∷ [])

-- n, below 2 ^ 64, in decimal, without leading zeros
unfoldable pub decimal : ℕ → List ℕ
decimal n = digits 20 n

-- a hexadecimal digit, lower case
abbrev pub hex_digit : ℕ → ℕ
hex_digit d = cond (ltb d 10) (48 + d) (87 + d)

-- the last k hexadecimal digits of n
unfoldable pub hex : ℕ → ℕ → List ℕ
hex zero n = []
hex (suc k) n = hex k (n / 16) ++ hex_digit (n % 16) ∷ []
