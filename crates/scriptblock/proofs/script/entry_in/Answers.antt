-- Each field is read at its place.
use Rattle.scriptblock.specs.ScriptAnswers.{entry_at}
use Rattle.scriptblock.proofs.script.entry_in.Goals as goal

pub returns : goal.returns
unfolding entry_at
returns c = rw (c.u30_le.ensures.0, c.le32.ensures, c.le64.ensures, c.le64-2.ensures)
