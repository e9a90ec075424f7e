-- The units that a path's hash is of (document 02, Q-2), name by name: each separator is `/`, a name's base is slashed and lowered, and its number
-- stands as it is; slashing is unit by unit. So the hash says nothing of separators, and a path's units can be made without its text.
use Rattle.std.specs.Prelude.{List, [], ◌∷◌, ℕ, zero, suc}
use Rattle.text.specs.Utf16.{encode16}
use Rattle.lower.specs.Lower.{lowered}
use Rattle.meaning.specs.Verify.{slashed}

-- what is hashed
abbrev pub path_units : List ℕ → List ℕ
path_units text = encode16 (lowered (slashed text))

-- what is written before a name that follows `depth` names
abbrev pub slash_after : ℕ → List ℕ
slash_after zero = []
slash_after (suc depth) = 0x2F ∷ []
