-- `output::put_bytes` meets its contract. The invariant: the first i bytes were written. Assumes nothing.
use mathlib.Core.Path.{refl}
use native.Mathlib.Omega.{arith}
use Rattle.base.specs.OutputLaws.{wrote_none, wrote-length, wrote-copy}
use Rattle.base.proofs.output.put_bytes.Goals as goal

pub loop-i-init : goal.loop-i-init
loop-i-init c = record { room = refl; wrote = wrote_none _ }

pub loop-i-preserved : goal.loop-i-preserved
loop-i-preserved c =
    let l = c.loop-i in
    let w = wrote-copy _ l.invariant.wrote c.loop-i-test.true (omega arith) in
    record { room = wrote-length w; wrote = w }
