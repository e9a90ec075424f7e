-- `script::BitsScript::with`: the bits of one unit more. Assumes nothing.
use mathlib.Core.Path.{ap}
use Rattle.ids.specs.declared.script.Bits.{Bits}
use Rattle.ids.proofs.WideUnits.{bits-last}
use Rattle.ids.proofs.script.BitsScript.with.Goals as goal

pub returns : goal.returns
returns c us e = rw (bits-last 0 us c.args.u, ← ap (λ (b : Bits). b.bits) e)
