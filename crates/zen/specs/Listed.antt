-- Which bytes of an accepted block count, part by part: what has no mark is what document 01 lists under "Passed over". Assumes nothing.
use Rattle.std.specs.Prelude.{cond, List, [], ◌∷◌, ◌++◌, ℕ, ◌+◌, ◌*◌, ◌-◌, ◌/◌, eqb, replicate}
use Rattle.base.specs.ReadingMarks.{Mark, whole, low, none}
use Rattle.base.specs.ReadingTrail.{copies}
use Rattle.batch.specs.declared.names.Names.{Names}
use Rattle.scriptblock.specs.declared.script.Layout as Script
use Rattle.zen.specs.declared.zen.Layout as Package

abbrev pub joined : List (List Mark) → List Mark
joined [] = []
joined (p ∷ ps) = p ++ joined ps

-- a mapped name: the top two bits of its index are passed over
unfoldable pub name_marks : List Mark
name_marks = whole ∷ whole ∷ whole ∷ low 6 ∷ replicate 4 whole

-- a batch: its name-hash bytes are passed over
unfoldable pub batch_marks : Names → List Mark
batch_marks n =
    cond (eqb n.count 0)
    (replicate 4 whole)
    (joined
    (replicate 16 whole ∷  -- count, string length, hash version
    replicate (8 * n.count) none ∷  -- name hashes
    replicate (2 * n.count) whole ∷  -- headers
    replicate (n.«end» - n.strings) whole ∷  -- strings
    []))

-- a script entry, 32 bytes
unfoldable pub entry_marks : List Mark
entry_marks =
    joined
    (name_marks ∷
    replicate 16 whole ∷  -- global index, outer
    replicate 8 none ∷  -- class default object
    [])

-- a summary, 52 bytes
unfoldable pub summary_marks : List Mark
summary_marks =
    joined
    (replicate 8 whole ∷  -- versioning flag, header size
    name_marks ∷
    replicate 8 none ∷  -- package flags, cooked size
    replicate 28 whole ∷  -- seven offsets
    [])

-- an export, 72 bytes
unfoldable pub export_marks : List Mark
export_marks =
    joined
    (replicate 16 none ∷  -- serial offset and size
    name_marks ∷
    replicate 24 whole ∷  -- outer, class, super
    replicate 8 none ∷  -- template
    replicate 8 whole ∷  -- public hash
    replicate 8 none ∷  -- object flags, filter flags, 3 bytes
    [])

-- a script block
unfoldable pub script_marks : Script.Layout → List Mark
script_marks l =
    joined
    (batch_marks l.names ∷
    replicate 4 whole ∷  -- count
    copies l.count entry_marks ∷
    [])

-- the tables of a package, from the bulk size to the imported names
unfoldable pub table_marks : Package.Layout → List Mark
table_marks l =
    joined
    (replicate 8 whole ∷  -- bulk size
    replicate (l.summary.hashes - (l.names.«end» + 8)) none ∷  -- bulk bytes
    replicate (l.summary.imports - l.summary.hashes) whole ∷  -- public hashes
    replicate (l.summary.exports - l.summary.imports) none ∷  -- import map values
    copies ((l.summary.bundles - l.summary.exports) / 72) export_marks ∷
    replicate (l.summary.imported - l.summary.bundles) none ∷  -- from the bundle entries up to the imported names
    [])

-- a package's header
unfoldable pub header_marks : Package.Layout → List Mark
header_marks l =
    joined
    (summary_marks ∷
    batch_marks l.names ∷
    table_marks l ∷
    batch_marks l.imported ∷
    replicate (4 * l.imported.count) whole ∷  -- their numbers
    [])

-- a package block of n bytes
unfoldable pub package_marks : Package.Layout → ℕ → List Mark
package_marks l n = header_marks l ++ replicate (n - l.size) none  -- past the header size
