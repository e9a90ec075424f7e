-- The names of an accepted block are held.
use Rattle.scriptblock.proofs.ScriptAccepted.{script-parts}
use Rattle.scriptblock.proofs.script.ScriptBlock.names.Goals as goal

pub of-requires : goal.of-requires
of-requires c = let s = c.args.self.now in (script-parts s.bytes.now s.layout s.accepted).held s.fits
