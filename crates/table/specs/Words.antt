-- Numbers in a buffer, and parts of it. Reads are layer 1's `le_at`, bytes its `le_bytes`. Assumes nothing.
use Rattle.std.specs.Prelude.{◌≡◌, List, ◌++◌, ℕ, length, take, drop}
use Rattle.base.specs.Number.{le_bytes}

-- the k bytes of w from a on
abbrev pub mid : ℕ → ℕ → List ℕ → List ℕ
mid a k w = take k (drop a w)

-- w with ys in the place of those k bytes: as a part that was lent leaves it
abbrev pub put : ℕ → ℕ → List ℕ → List ℕ → List ℕ
put a k w ys = take a w ++ (ys ++ drop k (drop a w))

-- w with the k low bytes of v from a place on
unfoldable pub stored : ℕ → List ℕ → ℕ → ℕ → List ℕ
stored k w at v = put at k w (le_bytes k v)

-- w' is w but for the bytes from b up to e
pub record Kept (b e : ℕ) (w w' : List ℕ) : Type 0 where
  pub size : length w' ≡ length w
  pub before : take b w' ≡ take b w
  pub after : drop e w' ≡ drop e w
