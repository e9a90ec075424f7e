-- The script block's objects by number, from 0 in the block's order: found by their global index, linked to their outers, and `path_of` over
-- these links (document 01, "script.rs"). Assumes nothing.
use Rattle.std.specs.Prelude.{cond, List, [], ◌∷◌, ℕ, zero, suc, eqb, get_or}
use Rattle.std.proofs.Math.Option.{Option, none, some}
use Rattle.base.specs.Index.{kind}
use Rattle.scriptblock.specs.Script.{Objects, object_name}
use Rattle.scriptblock.specs.ScriptAnswers.{no_entry}
use Rattle.scriptblock.specs.declared.script.Entry.{Entry}
use Rattle.meaning.specs.Path.{Path, added, start}

-- object i of the block
abbrev pub entry_no : Objects → ℕ → Entry
entry_no o i = get_or o.entries i no_entry

-- one more, where it isn't 0
abbrev pub raised : ℕ → ℕ
raised zero = zero
raised (suc n) = suc (suc n)

-- one more than the number of the entry whose global index is g, or 0
unfoldable pub number_of : List Entry → ℕ → ℕ
number_of [] g = 0
number_of (e ∷ es) g = cond (eqb e.global g) 1 (raised (number_of es g))

-- where an outer leads: 0 to no object of the block, 1 to none at all ("until one has kind 3"), else two more than the number of the object
unfoldable pub link_of : Objects → ℕ → ℕ
link_of o outer = cond (eqb (kind outer) 3) 1 (raised (number_of o.entries outer))

-- the path of what a link leads to
abbrev pub path_by : (ℕ → Option Path) → ℕ → Option Path
path_by up zero = none
path_by up (suc zero) = some start
path_by up (suc (suc i)) = up i

-- the path of object i: "at most 65 objects, all known; a 66th is unknown, as is a missing one"
unfoldable pub path_no : ℕ → Objects → ℕ → Option Path
path_no zero o i = none
path_no (suc limit) o i = added (object_name o (entry_no o i)) (path_by (path_no limit o) (link_of o (entry_no o i).outer))
