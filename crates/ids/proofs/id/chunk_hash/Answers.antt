-- `id::chunk_hash`: its units fill the front of a chunk. Assumes nothing.
use mathlib.Core.Path.{◌∙◌, ap}
use mathlib.Core.Bool.{true}
use native.Mathlib.Omega.{arith}
use Rattle.text.specs.Name.{base}
use Rattle.city.specs.City.{city_hash64}
use Rattle.ids.specs.LoweredUnits.{name_units}
use Rattle.ids.proofs.NameUnits.{wrote-all}
use Rattle.ids.proofs.id.chunk_hash.Goals as goal

pub returns : goal.returns
returns c =
    let e = rw (c.from.ensures.0, c.from.ensures.1) at c.put_units-size.ensures in
    let n = rw (c.from.ensures.0, c.from.ensures.1) at c.count.ensures in
    c.city_hash64.ensures
    ∙ ap city_hash64 (wrote-all (name_units (base true c.args.name.text.bytes.now) c.args.name.suffix.now) c.count.result e (omega arith))
