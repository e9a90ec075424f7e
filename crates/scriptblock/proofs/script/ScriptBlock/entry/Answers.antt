-- The entry that the accepted block lists stands at its place.
use mathlib.Core.Path.{sym, ◌∙◌}
use native.Mathlib.Omega.{arith}
use Rattle.scriptblock.proofs.ScriptAccepted.{listed}
use Rattle.scriptblock.proofs.script.ScriptBlock.entry.Goals as goal

pub overflow_mul-i : goal.overflow_mul-i
overflow_mul-i c = let s = c.args.self.now in omega (arith, (listed s.bytes.now s.layout c.args.i s.accepted c.requires).0)

pub overflow_add-self : goal.overflow_add-self
overflow_add-self c = let s = c.args.self.now in omega (arith, (listed s.bytes.now s.layout c.args.i s.accepted c.requires).0)

pub entry_in-requires : goal.entry_in-requires
entry_in-requires c = let s = c.args.self.now in (listed s.bytes.now s.layout c.args.i s.accepted c.requires).0

pub returns : goal.returns
returns c = let s = c.args.self.now in c.entry_in.ensures ∙ sym (listed s.bytes.now s.layout c.args.i s.accepted c.requires).1
