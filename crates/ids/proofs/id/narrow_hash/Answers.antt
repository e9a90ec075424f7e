-- `id::narrow_hash`: by words, or put as a whole. Assumes nothing.
use native.Mathlib.Omega.{arith}
use Rattle.ids.proofs.ShortUnits.{narrow-length}
use Rattle.ids.proofs.id.narrow_hash.Goals as goal

pub short_hash-requires : goal.short_hash-requires
short_hash-requires c = omega (arith, narrow-length c.args.name.base.now c.args.name.suffix.now)
