-- `units::PathUnits::put` meets its contract: the names' units from one further on, slashed. Assumes nothing.
use mathlib.Core.Path.{ap}
use mathlib.Core.List.{List}
use Prim.Native.Nat.{ℕ, ◌+◌}
use native.Mathlib.Omega.{arith}
use lib.ListN.{length, take, drop, length-drop}
use lib.Seq.{length-take-le}
use Rattle.base.specs.OutputLaws.{wrote_as}
use Rattle.text.specs.Utf16.{unit_bytes}
use Rattle.hashes.specs.Chain.{pieces}
use Rattle.hashes.specs.PieceLaws.{chain-window}
use Rattle.hashes.specs.SlashLaws.{slashed-wrote}
use Rattle.hashes.proofs.units.PathUnits.put.Goals as goal

pub returns : goal.returns
returns c =
    let a = c.args in
    let s = a.self.now in
    let all : List ℕ = drop (a.from + 1) (pieces s.names.now s.chain.now (length s.chain.now)) in
    let n = length-take-le a.n all (simp length-drop (omega (arith, s.sized.count))) in
    wrote_as (slashed-wrote (take a.n all) c.put_pieces-size.ensures n c.slash_units.ensures)
    (ap unit_bytes (chain-window s.names.now s.chain.now a.from a.n))
