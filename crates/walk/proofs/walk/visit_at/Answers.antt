-- `walk::visit_at` meets its contract. Assumes nothing.
use mathlib.Core.Path.{ap}
use Prim.Native.Nat.{ℕ, ◌+◌}
use Rattle.walk.specs.declared.walk.Visit.{Visit}
use Rattle.walk.proofs.walk.visit_at.Goals as goal

pub returns : goal.returns
returns c =
    let a = c.args in
    let made : ℕ → Visit = λ id. record { at = a.at; id = id; block = a.i + 2 } in
    ap made c.id_at.ensures
