-- `wide::put_wide`: what was put many a turn, and behind it the rest, over what was tried there. Assumes nothing.
use mathlib.Core.Path.{◌≡◌}
use mathlib.Core.Bool.{true}
use native.Mathlib.Omega.{arith}
use Rattle.lower.specs.Lower.{lowered}
use Rattle.base.specs.OutputLaws.{wrote_as}
use Rattle.text.specs.Utf16.{encode16}
use Rattle.text.specs.Name.{base}
use Rattle.ids.proofs.PutUnits.{wrote-behind}
use Rattle.ids.proofs.wide.put_wide.Goals as goal

pub returns-then-k-n : goal.returns-then-k-n
returns-then-k-n c =
    let a = c.args in
    let p = c.put_turns-k.ensures in
    wrote-behind (encode16 (lowered (base true a.text.bytes.now))) a.from a.n c.put_turns-k.result p.0 p.2 p.1 c.put_singly.ensures

pub returns-else-k-n : goal.returns-else-k-n
returns-else-k-n c =
    let a = c.args in
    let p = c.put_turns-k.ensures in
    let e : c.put_turns-k.result ≡ a.n = omega arith in
    wrote_as p.2 (rw e at p.1)
