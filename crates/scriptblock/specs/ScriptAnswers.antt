-- The script block's answers: in two steps, so that whoever has a look-up table asks 12 with it. Assumes nothing.
use Rattle.std.specs.Prelude.{Bool, cond, List, [], ◌∷◌, ℕ, ◌+◌, ◌*◌, ltb, eqb, length, Result, Ok, Err}
use Rattle.base.specs.Index.{kind}
use Rattle.base.specs.Number.{le_at}
use Rattle.base.specs.Reading.{Out, refused, gives, Got, bad, got, walk}
use Rattle.base.specs.ReadingRows.{cells}
use Rattle.batch.specs.Field.{low30}
use Rattle.scriptblock.specs.Script.{Start, opening, Objects, fresh}
use Rattle.scriptblock.specs.declared.script.Entry.{Entry}
use Rattle.scriptblock.specs.declared.script.Layout.{Layout}

-- what is asked before the entries: questions 3 to 9
unfoldable pub opened_by : Got Start → Result Layout ℕ
opened_by (bad r) = Err r
opened_by (got o n) = Ok o.layout

unfoldable pub opened : List ℕ → Result Layout ℕ
opened s = opened_by (walk opening s 0)

-- the entry at a position
unfoldable pub entry_at : List ℕ → ℕ → Entry
entry_at s at = record { index = low30 s at; number = le_at 4 s (at + 4); global = le_at 8 s (at + 8); outer = le_at 8 s (at + 16) }

abbrev pub no_entry : Entry
no_entry = record { index = 0; number = 0; global = 0; outer = 0 }

-- the first question that an entry by itself fails
unfoldable pub fault_of : Entry → ℕ → ℕ
fault_of e names = cond (ltb e.index names) (cond (eqb (kind e.global) 1) 0 11) 10

-- the first question that an entry of a list fails, after those seen (the last first)
abbrev pub fault_on : ℕ → List Entry → List Entry → ℕ
fault_on names seen [] = 0
fault_on names seen (e ∷ es) = cond (eqb (fault_of e names) 0) (cond (fresh e.global seen) (fault_on names (e ∷ seen) es) 12) (fault_of e names)

unfoldable pub fresh_at : List ℕ → ℕ → ℕ → ℕ → Bool
fresh_at s from n g = fresh g (cells (entry_at s) 32 from n)

unfoldable pub fault_at : List ℕ → Layout → ℕ
fault_at s l = fault_on l.names.count [] (cells (entry_at s) 32 l.entries l.count)

-- the answer from what is asked before the entries on: an entry's first fault, then whether nothing is left? 13
unfoldable pub answer_by : List ℕ → Result Layout ℕ → Result Layout ℕ
answer_by s (Err r) = Err r
answer_by s (Ok l) = cond (eqb (fault_at s l) 0) (cond (ltb (l.entries + 32 * l.count) (length s)) (Err 13) (Ok l)) (Err (fault_at s l))

unfoldable pub script_answer : Out Objects → Result Layout ℕ
script_answer (refused r) = Err r
script_answer (gives o) = Ok o.layout

unfoldable pub entries_of : Out Objects → List Entry
entries_of (refused r) = []
entries_of (gives o) = o.entries

unfoldable pub object_names : Out Objects → List (List ℕ)
object_names (refused r) = []
object_names (gives o) = o.names
