-- `short::short_hash`: by how many units there are. Assumes nothing.
use native.Mathlib.Omega.{arith}
use Rattle.ids.proofs.ShortUnits.{narrow-length}
use Rattle.ids.proofs.short.short_hash.Goals as goal

pub four_hash-requires : goal.four_hash-requires
four_hash-requires c =
    let l = narrow-length c.args.name.base.now c.args.name.suffix.now in
    (omega arith, omega arith)
