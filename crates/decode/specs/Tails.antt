-- Text that fits Latin-1, by its bytes alone, none decoded: ASCII, and tails after C2 or C3. Each byte below C0 ends a character and is kept; the
-- others are passed over. What the code writes. Assumes nothing.
use Rattle.std.specs.Prelude.{◌≡◌, cond, List, [], ◌∷◌, ◌++◌, ℕ, ◌+◌, ◌-◌, ◌≤◌, ◌<◌, ltb, eqb, length, take, drop, get_or}
use Rattle.std.specs.Int.Bits.{bit_or}

-- U+0080 to U+00BF are C2 80 to C2 BF, U+00C0 to U+00FF are C3 80 to C3 BF
unfoldable pub raised : ℕ → ℕ → ℕ
raised before b = cond (eqb before 0xC3) (bit_or b 0x40) b

-- the bytes that are kept, each made from the byte before it and itself
abbrev pub kept : ℕ → List ℕ → List ℕ
kept before [] = []
kept before (b ∷ s) = cond (ltb b 0xC0) (raised before b ∷ kept b s) (kept b s)

-- behind each byte that is not kept stands one that is
abbrev pub Tailed : ℕ → List ℕ → Type 0
Tailed before [] = before < 0xC0
Tailed before (b ∷ s) = (0xC0 ≤ before → b < 0xC0) × Tailed b s

-- ---- as the code writes them

-- the buffer old is now o: of the bytes of s, which come after first, those that are kept before place i are written to its front, and are n; what
-- stands behind them, as far as those that are still to come, doesn't matter
pub record Filling (old : List ℕ) (first : ℕ) (s o : List ℕ) (i n before : ℕ) : Type 0 where
  pub is : take n o ++ kept before (drop i s) ≡ kept first s
  pub size : n + length (kept before (drop i s)) ≡ length (kept first s)
  pub room : length (kept first s) ≤ length old
  pub same : length o ≡ length old
  pub rest : drop (length (kept first s)) o ≡ drop (length (kept first s)) old
  pub ends : Tailed before (drop i s)

-- ---- two bytes at a time

-- a byte between two others: what it means, and of a leading byte what its tail means
unfoldable pub picked : ℕ → ℕ → ℕ → ℕ
picked a b c = cond (ltb b 0xC0) (raised a b) (raised b c)

-- how many of two bytes are kept
unfoldable pub ran : ℕ → ℕ → ℕ
ran b c = cond (ltb b 0xC0) 1 0 + cond (ltb c 0xC0) 1 0

-- what each of the m bytes of s from place i on means
pub record Meant (s : List ℕ) (i m : ℕ) (bytes : List ℕ) : Type 0 where
  pub byte : (k : ℕ) → k < m → get_or bytes k 0 ≡ picked (get_or s (i + k - 1) 0) (get_or s (i + k) 0) (get_or s (i + k + 1) 0)

-- how many of each of the m bytes of s from place i on and the byte behind it are kept
pub record Counted (s : List ℕ) (i m : ℕ) (sizes : List ℕ) : Type 0 where
  pub size : (k : ℕ) → k < m → get_or sizes k 0 ≡ ran (get_or s (i + k) 0) (get_or s (i + k + 1) 0)
