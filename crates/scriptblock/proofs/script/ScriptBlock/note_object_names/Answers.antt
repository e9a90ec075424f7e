-- The names of an accepted block are held.
use Rattle.scriptblock.proofs.ScriptAccepted.{script-parts}
use Rattle.scriptblock.proofs.script.ScriptBlock.note_object_names.Goals as goal

pub note-requires : goal.note-requires
note-requires c = let s = c.args.self.now in (script-parts s.bytes.now s.layout s.accepted).held s.fits
