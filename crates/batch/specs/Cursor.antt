-- Reading through a cursor (document 01: "`Cursor` holds its bytes and position"): a read finds what the reading gives at the
-- cursor's position (question 3: "are its bytes there?"). Assumes nothing.
use Rattle.std.specs.Prelude.{List, ℕ, Option, Some, None}
use Rattle.base.specs.Reading.{Got, bad, got, walk}
use Rattle.batch.specs.Batch.{u32}

-- a number and the position behind it, or that its bytes are not there
unfoldable pub worded : Got ℕ → Option (ℕ × ℕ)
worded (bad r) = None
worded (got n at) = Some (n, at)

-- the u32 at a position
abbrev pub word_at : List ℕ → ℕ → Option (ℕ × ℕ)
word_at s at = worded (walk u32 s at)

-- the number alone
unfoldable pub found_word : Option (ℕ × ℕ) → Option ℕ
found_word (Some w) = Some w.0
found_word None = None

-- the position that a read leaves: behind what it found, or where it was
unfoldable pub behind : Option (ℕ × ℕ) → ℕ → ℕ
behind (Some w) at = w.1
behind None at = at
