-- Blocks as bytes, for examples: script blocks, and package blocks from texts as they are quoted. What is passed over is 0. Assumes nothing.
use Rattle.std.specs.Prelude.{List, ◌++◌, map, ℕ, ◌+◌, ◌*◌, ◌^◌, length}
use Prim.Native.String.{String}
use Rattle.base.specs.Find.{flat}
use Rattle.base.specs.Literal.{quoted as text}
use Rattle.written.specs.BatchBytes.{le4, le8, batch_bytes}
use Rattle.written.specs.HeaderBytes.{Description, mapped, header_with, header_of}
use Rattle.zen.specs.declared.tables.Export.{Export}

-- indices of kind 1, 2 and 3; an index of kind 0 is an export's number
abbrev pub script_index : ℕ → ℕ
script_index i = 2 ^ 62 + i

abbrev pub import_index : ℕ → ℕ → ℕ
import_index name hash = 2 * 2 ^ 62 + name * 2 ^ 32 + hash

abbrev pub null_index : ℕ
null_index = 3 * 2 ^ 62

-- a script object: its name in the batch, its global index, its outer
abbrev pub object : ℕ → ℕ → ℕ → List ℕ
object name global outer = mapped name 0 ++ le8 global ++ le8 outer ++ le8 0

abbrev pub script_bytes : List String → List (List ℕ) → List ℕ
script_bytes names objects = batch_bytes (map text names) ++ le4 (length objects) ++ flat (λ o. o) objects

-- what a package says: its names, of which the first is its own; instance numbers of its name and of imported names are 0
pub record Contents : Type 0 where
  pub names : List String
  pub hashes : List ℕ
  pub exports : List Export
  pub imported : List String

abbrev pub plainly : Contents → Description
plainly c = record {
  name = 0;
  number = 0;
  texts = map text c.names;
  exports = c.exports;
  hashes = c.hashes;
  imported = map (λ (t : String). record { text = text t; number = 0 }) c.imported;
}

-- its block, with some header size and offsets, and with those that it makes
abbrev pub package_with : ℕ → List ℕ → Contents → List ℕ
package_with size offsets c = header_with size offsets (plainly c)

abbrev pub package_bytes : Contents → List ℕ
package_bytes c = header_of (plainly c)
