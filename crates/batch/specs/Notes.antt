-- Notes of where names start: what they hold, so that a name is reached from the nearest note before it. Assumes nothing.
use Rattle.std.specs.Prelude.{◌≡◌, List, ℕ, ◌+◌, ◌*◌, ◌-◌, ◌/◌, ◌<◌, get_or, replicate}
use Rattle.batch.specs.Places.{name_start}
use Rattle.batch.specs.declared.names.Names.{Names}

-- how many notes there are
abbrev pub note_count : ℕ
note_count = 16384

-- before any name is noted
unfoldable pub no_notes : List ℕ
no_notes = replicate note_count 0

-- how many names there are from a note to the next, so that the notes do for all
abbrev pub step_of : ℕ → ℕ
step_of count = count / note_count + 1

-- every step-th name's place among the strings
pub record Noted (s : List ℕ) (n : Names) (notes : List ℕ) : Type 0 where
  pub at : (j : ℕ) → j < note_count → step_of n.count * j < n.count → get_or notes j 0 ≡ name_start s n.headers n.strings (step_of n.count * j) - n.strings
