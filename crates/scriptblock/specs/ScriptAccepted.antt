-- What an accepted script block holds, and where: the tie of its reading to its layout.
use Rattle.std.specs.Prelude.{◌≡◌, List, ℕ, ◌+◌, ◌*◌, ◌<◌, length}
use Rattle.base.specs.Index.{kind}
use Rattle.base.specs.NumberLaws.{Bytes}
use Rattle.base.specs.Reading.{run}
use Rattle.base.specs.ReadingRows.{cells}
use Rattle.batch.specs.Places.{texts_at, Held}
use Rattle.batch.specs.FoundBatch.{FoundAt}
use Rattle.scriptblock.specs.Script.{script}
use Rattle.scriptblock.specs.ScriptAnswers.{entry_at, entries_of, object_names}
use Rattle.scriptblock.specs.ScriptFaults.{entry_of}
use Rattle.scriptblock.specs.declared.script.Layout.{Layout}

-- an accepted block and its layout
pub record ScriptParts (b : List ℕ) (l : Layout) : Type 0 where
  pub found : FoundAt b 0 l.names
  pub held : Bytes b → Held b l.names
  pub names : object_names (run script 0 b) ≡ texts_at b l.names.headers l.names.strings l.names.count
  pub entries : entries_of (run script 0 b) ≡ cells (entry_at b) 32 l.entries l.count
  pub size : l.entries + 32 * l.count ≡ length b
  -- entry by entry: its name is in the batch, its kind is 1, no other has its global index
  pub index : (i : ℕ) → i < l.count → (entry_of b l i).index < l.names.count
  pub kinds : (i : ℕ) → i < l.count → kind (entry_of b l i).global ≡ 1
  pub distinct : (i j : ℕ) → i < j → j < l.count → (entry_of b l i).global ≡ (entry_of b l j).global → ⊥
