-- `units::PathUnits::turns_from` meets its contract: the turns read the units of the window. Assumes nothing.
use mathlib.Core.Path.{◌≡◌, ◌∙◌, ap}
use mathlib.Core.List.{List}
use Prim.Native.Nat.{ℕ, ◌*◌, ◌/◌}
use native.Mathlib.Omega.{arith}
use lib.ListN.{length, take, drop}
use Rattle.city.specs.City.{turns}
use Rattle.base.specs.OutputLaws.{wrote-taken, taken-length}
use Rattle.text.specs.Utf16.{unit_bytes}
use Rattle.hashes.specs.Chain.{chain_units}
use Rattle.hashes.specs.PieceLaws.{window-size}
use Rattle.hashes.specs.TurnLaws.{turns-window}
use Rattle.hashes.proofs.units.PathUnits.turns_from.Goals as goal

pub slice_bounds-turns_over-end : goal.slice_bounds-turns_over-end
slice_bounds-turns_over-end c = taken-length c.put-size.ensures

pub returns : goal.returns
returns c =
    let a = c.args in
    let s = a.self.now in
    let us : List ℕ = chain_units s.names.now s.chain.now in
    let w = window-size s.sized a.from (32 * a.count) (omega arith) in
    let n : length (unit_bytes (take (32 * a.count) (drop a.from us))) / 64 ≡ a.count = omega (arith, w) in
    c.turns_over.ensures ∙ ap (λ (l : List ℕ). turns (length l / 64) l a.t) (wrote-taken c.put-size.ensures)
    ∙ (ap (λ (k : ℕ). turns k (unit_bytes (take (32 * a.count) (drop a.from us))) a.t) n ∙ turns-window a.count a.from us a.t)
