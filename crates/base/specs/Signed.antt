-- Two's complement: what k bits stand for as a signed number (document 01: "An offset is a signed number"). Assumes nothing.
use Rattle.std.specs.Prelude.{cond, ℕ, ◌*◌, ◌^◌, ltb, ℤ, pos, ◌-ℤ◌}

-- n itself below half of 2 ^ k, and n less 2 ^ k from there on
unfoldable pub twos : ℕ → ℕ → ℤ
twos k n = cond (ltb (n * 2) (2 ^ k)) (pos n) (pos n -ℤ pos (2 ^ k))
