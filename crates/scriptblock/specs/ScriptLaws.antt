-- Laws of the script block by position: its entries, what is asked before them, and its answer in two steps.
use Rattle.std.specs.Prelude.{◌≡◌, List, ℕ, ◌+◌, ◌*◌, ◌≤◌, length}
use Rattle.base.specs.Number.{le_at}
use Rattle.base.specs.ReadingRows.{cells}
use Rattle.batch.specs.FoundBatch.{FoundAt}
use Rattle.batch.specs.declared.names.Names.{Names}
use Rattle.scriptblock.specs.Script.{Start, Objects}
use Rattle.scriptblock.specs.ScriptAnswers.{entry_at}
use Rattle.scriptblock.specs.declared.script.Layout.{Layout}

-- ---- what is asked before the entries
-- where the parts are, behind the batch
abbrev pub layout_at : List ℕ → Names → Layout
layout_at b n = record { names = n; count = le_at 4 b n.«end»; entries = n.«end» + 4 }

-- the opening that was read
pub record Opening (b : List ℕ) (o : Start) (at : ℕ) : Type 0 where
  pub found : FoundAt b 0 o.layout.names
  pub texts : o.names ≡ found.texts
  pub place : at ≡ o.layout.entries
  pub fits : o.layout.entries + 32 * o.layout.count ≤ length b

-- ---- THE ANSWER IN TWO STEPS: what is asked before the entries; the first fault of an entry, and whether nothing is left
abbrev pub objects_at : List ℕ → Start → Objects
objects_at b o = record { layout = o.layout; names = o.names; entries = cells (entry_at b) 32 o.layout.entries o.layout.count }
