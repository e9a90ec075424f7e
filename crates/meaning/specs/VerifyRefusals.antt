-- What `verify` refuses (document 01: "it asks the report's questions unless said otherwise"; document 02, Q-2: "25 is not asked"): what the
-- report call refuses before 25, by the same question and block, and else 26 exactly where the output is longer than its buffer.
use Rattle.std.specs.Prelude.{◌≡◌, List, ℕ, ◌+◌, ◌<◌, length}
use Rattle.meaning.specs.Call.{accepted, Opened, opened, limits}

-- ---- the refusals of `verify`

-- 26: the buffer is shorter than the 25 bytes and the flags
abbrev pub TooShort : List ℕ → ℕ → Type 0
TooShort s room = (d : Opened) × (opened limits s ≡ accepted d) × (room < 25 + length d.packages)
