-- Numbers in bytes (document 01: "Corpus, big-endian"; "Inside blocks numbers are little-endian"). Assumes nothing.
use Rattle.std.specs.Prelude.{List, [], ◌∷◌, ℕ, zero, suc, ◌+◌, ◌*◌, ◌/◌, ◌%◌, ◌^◌, length, take, drop}

-- little-endian: each byte counts 256 times what the one before it counts
abbrev pub le : List ℕ → ℕ
le [] = 0
le (b ∷ bs) = b + 256 * le bs

-- big-endian: the last byte counts least
abbrev pub be : List ℕ → ℕ
be [] = 0
be (b ∷ bs) = b * 256 ^ length bs + be bs

-- the number of the k bytes from a place on
unfoldable pub le_at : ℕ → List ℕ → ℕ → ℕ
le_at k s at = le (take k (drop at s))

unfoldable pub be_at : ℕ → List ℕ → ℕ → ℕ
be_at k s at = be (take k (drop at s))

-- the k low bytes of x, big-endian
unfoldable pub be_bytes : ℕ → ℕ → List ℕ
be_bytes zero x = []
be_bytes (suc k) x = x / 256 ^ k % 256 ∷ be_bytes k x

-- the k low bytes of x, little-endian
unfoldable pub le_bytes : ℕ → ℕ → List ℕ
le_bytes zero x = []
le_bytes (suc k) x = x % 256 ∷ le_bytes k (x / 256)
