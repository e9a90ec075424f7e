-- What the exported functions answer for any block: layer 2's readings, and 2 ^ 64 - 1 for what is not there. Assumes nothing.
use Rattle.std.specs.Prelude.{cond, List, [], ◌∷◌, map, ℕ, ◌+◌, ◌-◌, ◌^◌, ltb, length, take, get_or}
use Rattle.ids.specs.Id.{id_of}
use Rattle.base.specs.Reading.{Out, refused, gives, run, run_block}
use Rattle.batch.specs.Places.{place_at}
use Rattle.batch.specs.declared.names.Names.{Names}
use Rattle.scriptblock.specs.Script.{Objects, script}
use Rattle.scriptblock.specs.ScriptAnswers.{entries_of}
use Rattle.scriptblock.specs.declared.script.Entry.{Entry}
use Rattle.zen.specs.Answers.{exports_of, imported_of, imported_name_of}
use Rattle.zen.specs.Zen.{Read, package_block}
use Rattle.zen.specs.declared.tables.Export.{Export}

abbrev pub package_in : List ℕ → Out Read
package_in b = run_block package_block b

abbrev pub script_in : List ℕ → Out Objects
script_in b = run script 0 b

abbrev pub none : ℕ
none = 2 ^ 64 - 1

-- the number of the refusal, or 0
unfoldable pub refusal : {A : Type 0} → Out A → ℕ
refusal (refused r) = r
refusal (gives a) = 0

-- how many names, exports, public hashes and imported names there are
unfoldable pub counts : Out Read → List ℕ
counts (refused r) = []
counts (gives r) = length r.names ∷ length r.exports ∷ length r.hashes ∷ length r.imported ∷ []

-- the numbers of an export and of an object
unfoldable pub export_fields : Export → List ℕ
export_fields e = e.index ∷ e.number ∷ e.outer ∷ e.class ∷ e.parent ∷ e.hash ∷ []

unfoldable pub object_fields : Entry → List ℕ
object_fields e = e.index ∷ e.number ∷ e.global ∷ e.outer ∷ []

-- number k of row i
unfoldable pub cell : List (List ℕ) → ℕ → ℕ → ℕ
cell rows i k = get_or (get_or rows i []) k none

unfoldable pub export_answer : Out Read → ℕ → ℕ → ℕ
export_answer x i k = cell (map export_fields (exports_of x)) i k

unfoldable pub object_answer : Out Objects → ℕ → ℕ → ℕ
object_answer x i k = cell (map object_fields (entries_of x)) i k

-- the id of imported name i
unfoldable pub id_answer : Out Read → ℕ → ℕ
id_answer x i = cond (ltb i (length (imported_of x))) (id_of (imported_name_of x i)) none

-- where the bases of some exports end in the block, added up
unfoldable pub ends : List ℕ → Names → List Export → ℕ
ends s n [] = 0
ends s n (e ∷ es) = (place_at s n e.index).start + (place_at s n e.index).size + ends s n es

unfoldable pub ends_answer : List ℕ → Out Read → ℕ
ends_answer b (refused r) = none
ends_answer b (gives r) = ends (take r.layout.size b) r.layout.names r.exports
