-- `path_of` (document 01, "script.rs"). The limit on objects is an argument: 65 in this version. Assumes nothing.
use Rattle.std.specs.Prelude.{Bool, true, false, List, [], ◌++◌, ℕ, zero, suc, ◌+◌, eqb}
use Rattle.std.proofs.Math.Option.{Option, none, some}
use Rattle.base.specs.Find.{find}
use Rattle.base.specs.Index.{kind}
use Rattle.base.specs.Literal.{quoted}
use Rattle.scriptblock.specs.Script.{Objects, object_name}
use Rattle.scriptblock.specs.declared.script.Entry.{Entry}

-- a path's text, and how many objects it walked
pub record Path : Type 0 where
  pub text : List ℕ
  pub depth : ℕ

-- the block's object whose global index is g
abbrev pub object_at : Objects → ℕ → Option Entry
object_at o g = find (λ e. eqb e.global g) o.entries

-- what stands before a name that follows `depth` names: "`:` before the third, `.` before every other but the first"
abbrev pub separator : ℕ → List ℕ
separator zero = []
separator (suc zero) = quoted "."
separator (suc (suc zero)) = quoted ":"
separator (suc (suc (suc n))) = quoted "."

abbrev pub added : List ℕ → Option Path → Option Path
added name none = none
added name (some p) = some (record { text = p.text ++ separator p.depth ++ name; depth = p.depth + 1 })

abbrev pub start : Path
start = record { text = []; depth = 0 }

-- the path of what an outer index names: nothing more where its kind is 3, else the path of that object
abbrev pub beyond : Bool → Option Path → Option Path
beyond true p = some start
beyond false p = p

abbrev pub through : (ℕ → Option Path) → Objects → Option Entry → Option Path
through up o none = none
through up o (some e) = added (object_name o e) (beyond (eqb (kind e.outer) 3) (up e.outer))

-- "follow outers from the index until one has kind 3; at most 65 objects, all known; a 66th is unknown, as is a missing one"
unfoldable pub path_of : ℕ → Objects → ℕ → Option Path
path_of zero o g = none
path_of (suc limit) o g = through (path_of limit o) o (object_at o g)
