-- What document 01 lists as passed over (zen/Listed.antt) is 0 in some bytes (document 02, Q-4: "Passed-over bytes are zero"). Assumes nothing.
use Rattle.std.specs.Prelude.{◌≡◌, List, [], ◌∷◌, ℕ, ◌^◌, ◌<◌}
use Rattle.base.specs.ReadingMarks.{Mark, whole, low, none}

-- a byte whose bits all count may be any; of one that counts in part the bits above are 0; one that doesn't count is 0
abbrev pub Zero : Mark → ℕ → Type 0
Zero whole x = Unit {0}
Zero (low k) x = x < 2 ^ k
Zero none x = x ≡ 0

-- byte by byte
pub data Zeroed : List Mark → List ℕ → Type 0 where
  ends : Zeroed [] []
  next : {m : Mark} {x : ℕ} {ms : List Mark} {s : List ℕ} → Zero m x → Zeroed ms s → Zeroed (m ∷ ms) (x ∷ s)
