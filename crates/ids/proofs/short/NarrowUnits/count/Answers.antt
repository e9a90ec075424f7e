-- `short::Narrow::count`: one unit for each byte. Assumes nothing.
use mathlib.Core.Path.{sym}
use Rattle.ids.proofs.ShortUnits.{narrow-length}
use Rattle.ids.proofs.short.NarrowUnits.count.Goals as goal

pub returns : goal.returns
returns c = sym (narrow-length c.args.self.base.now c.args.self.suffix.now)
