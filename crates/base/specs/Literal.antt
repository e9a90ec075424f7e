-- A text that is written out in a definition, as its scalar values. Assumes nothing.
use Rattle.std.specs.Prelude.{List, [], ◌∷◌, ℕ}
use Prim.Native.Char.{code}
use Prim.Native.String.{String, [] as none, ◌∷◌ as ◌then◌}

-- the code points of a quoted text
abbrev pub quoted : String → List ℕ
quoted none = []
quoted (c then s) = code c ∷ quoted s
