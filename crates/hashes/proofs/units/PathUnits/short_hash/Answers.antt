-- `units::PathUnits::short_hash` meets its contract: all units are in front of the text. Assumes nothing.
use mathlib.Core.Path.{◌∙◌, ap}
use native.Mathlib.Omega.{arith}
use lib.Seq.{take_all}
use Rattle.city.specs.City.{city_hash64}
use Rattle.base.specs.OutputLaws.{wrote-taken, taken-length}
use Rattle.text.specs.Utf16.{unit_bytes}
use Rattle.hashes.specs.Chain.{chain_units}
use Rattle.hashes.specs.PieceLaws.{chain_length}
use Rattle.hashes.proofs.units.PathUnits.short_hash.Goals as goal

pub slice_bounds-city_hash64-end : goal.slice_bounds-city_hash64-end
slice_bounds-city_hash64-end c = taken-length c.put-size.ensures

pub returns : goal.returns
returns c =
    let s = c.args.self.now in
    let n = chain_length s.names.now s.chain.now s.count s.sized.count in
    c.city_hash64.ensures
    ∙ ap city_hash64 (wrote-taken c.put-size.ensures ∙ ap unit_bytes (take_all s.count (chain_units s.names.now s.chain.now) (omega arith)))
