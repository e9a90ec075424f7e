-- All that a caller needs of an accepted script block, in one place: what was read of it, how much of it there is, what its names' places
-- hold, and which entry has a global index. Assumes nothing.
use Rattle.std.specs.Prelude.{◌≡◌, List, [], ℕ, ◌+◌, ◌*◌, ◌<◌, length, get_or, Ok}
use Rattle.base.specs.Index.{kind}
use Rattle.base.specs.NumberLaws.{Bytes}
use Rattle.base.specs.Reading.{gives, run}
use Rattle.batch.specs.Places.{place_at}
use Rattle.batch.specs.Holds.{Holds}
use Rattle.scriptblock.specs.Script.{Objects, script}
use Rattle.scriptblock.specs.ScriptAnswers.{entry_at, no_entry, script_answer, entries_of, object_names}
use Rattle.scriptblock.specs.declared.script.Layout.{Layout}

-- block b is accepted with layout l, and o is what was read of it
pub record ScriptFacts (b : List ℕ) (l : Layout) (o : Objects) : Type 0 where
  pub accepted : script_answer (run script 0 b) ≡ Ok l
  pub is : run script 0 b ≡ gives o
  pub layout : o.layout ≡ l
  -- what the accessors speak of
  pub entries_of_lem : entries_of (run script 0 b) ≡ o.entries
  pub names_of_lem : object_names (run script 0 b) ≡ o.names
  -- how much of each there is, and that it is there
  pub entries : length o.entries ≡ l.count
  pub names : length o.names ≡ l.names.count
  pub size : l.entries + 32 * l.count ≡ length b
  -- entry by entry: where it is; its name is in the batch, its kind is 1, no other has its global index
  pub entry_at_lem : (i : ℕ) → i < l.count → entry_at b (l.entries + 32 * i) ≡ get_or o.entries i no_entry
  pub index : (i : ℕ) → i < l.count → (get_or o.entries i no_entry).index < l.names.count
  pub kinds : (i : ℕ) → i < l.count → kind (get_or o.entries i no_entry).global ≡ 1
  pub distinct : (i j : ℕ) → i < j → j < l.count → (get_or o.entries i no_entry).global ≡ (get_or o.entries j no_entry).global → ⊥
  -- what the place of name i holds
  pub holds : Bytes b → (i : ℕ) → i < l.names.count → Holds b (place_at b l.names i) (get_or o.names i [])
