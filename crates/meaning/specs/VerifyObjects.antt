-- What a script object counts for in `verify` (document 02, Q-2), by its outer chain in document 01's words: it is resolved exactly where such a
-- chain of few enough objects ends in a null index, and matches exactly where the hash of that chain's path is its global index in the low 62
-- bits.
use Rattle.std.specs.Prelude.{◌≡◌, List, map, reverse, ℕ, ◌≤◌, length}
use Rattle.scriptblock.specs.Script.{Objects, object_name}
use Rattle.scriptblock.specs.declared.script.Entry.{Entry}
use Rattle.meaning.specs.Chain.{Outers, joined}

-- an object's path, of at most so many objects: the names of its outer chain
abbrev pub HasPath : ℕ → Objects → Entry → List ℕ → Type 0
HasPath limit o e text =
    (objects : List Entry) × Outers o e.global objects × (length objects ≤ limit) × (text ≡ joined (map (object_name o) (reverse objects)))
