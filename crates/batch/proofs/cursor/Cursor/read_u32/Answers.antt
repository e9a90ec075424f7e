-- `batch::cursor::Cursor::read_u32` meets its contract, by what the read found.
use Rattle.batch.specs.Cursor.{found_word, behind}
use Rattle.batch.proofs.cursor.Cursor.read_u32.Goals as goal

pub returns-in_err-word-clause-number : goal.returns-in_err-word-clause-number
unfolding found_word
returns-in_err-word-clause-number c = rw c.from_residual.ensures (rw (← c.in_err-word.ensures))

pub returns-in_err-word-clause-place : goal.returns-in_err-word-clause-place
unfolding behind
returns-in_err-word-clause-place c = rw (← c.in_err-word.ensures)

pub returns-clause-number : goal.returns-clause-number
unfolding found_word
returns-clause-number c = rw (← c.in_ok-word.ensures)

pub returns-clause-place : goal.returns-clause-place
unfolding behind
returns-clause-place c = rw (← c.in_ok-word.ensures)
