-- A script object by its global index: its entry's number. Assumes nothing.
use Rattle.std.specs.Prelude.{List, ℕ, eqb}
use Rattle.base.specs.Seek.{seek}
use Rattle.scriptblock.specs.declared.script.Entry.{Entry}

-- one more than the number of the first entry with a global index; 0 where none has it
abbrev pub entry_number : ℕ → List Entry → ℕ
entry_number g es = seek (λ (e : Entry). eqb e.global g) es
