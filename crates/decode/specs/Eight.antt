-- A few bytes of ASCII in a row: how they are seen. Assumes nothing.
use Rattle.std.specs.Prelude.{◌≡◌, Bool, true, cond, ◌&&◌, List, ℕ, ◌+◌, ◌≤◌, leb, length, take, drop}
use Rattle.decode.specs.Latin.{every, ascii}

-- k bytes are there from a place on, and ASCII
abbrev pub is_few : ℕ → List ℕ → ℕ → Bool
is_few k s at = leb (at + k) (length s) && every ascii (take k (drop at s))

-- eight are
abbrev pub is_eight : List ℕ → ℕ → Bool
is_eight s at = is_few 8 s at

-- k are, as a fact
abbrev pub Few : ℕ → List ℕ → ℕ → Type 0
Few k s at = (at + k ≤ length s) × (every ascii (take k (drop at s)) ≡ true)

-- how many are passed at once where one stands: eight, four or one
abbrev pub few_at : List ℕ → ℕ → ℕ
few_at s at = cond (is_few 8 s at) 8 (cond (is_few 4 s at) 4 1)
