-- What holds of the entries of a script block that was read (document 01, questions 10 to 12: "name index in batch? 10; kind 1? 11;
-- index new? 12"): so far as a caller goes, an index names one object. Assumes nothing.
use Rattle.std.specs.Prelude.{◌≡◌, ℕ, ◌<◌, length}
use mathlib.Core.List.{List, [], ◌∷◌, Memᴰ}
use Rattle.base.specs.Index.{kind}
use Rattle.scriptblock.specs.Script.{Objects}
use Rattle.scriptblock.specs.declared.script.Entry.{Entry}

-- no two entries of a list have one global index
abbrev pub Apart : List Entry → Type 0
Apart [] = Unit {0}
Apart (e ∷ es) = ((d : Entry) → Memᴰ d es → d.global ≡ e.global → ⊥) × Apart es

-- each entry's index has kind 1, and its name is one of so many
abbrev pub Entered : ℕ → List Entry → Type 0
Entered names es = (e : Entry) → Memᴰ e es → (kind e.global ≡ 1) × (e.index < names)

pub record Good (o : Objects) : Type 0 where
  pub apart : Apart o.entries
  pub entered : Entered (length o.names) o.entries
