-- `units::PathUnits::state_before` meets its contract: of the last 32 units and the first word. Assumes nothing.
use mathlib.Core.Path.{◌≡◌, ◌∙◌}
use mathlib.Core.List.{List}
use Prim.Native.Nat.{ℕ, ◌-◌, ◌*◌}
use native.Mathlib.Omega.{arith}
use lib.ListN.{take, drop}
use Rattle.text.specs.Utf16.{unit_bytes}
use Rattle.hashes.specs.Chain.{chain_units}
use Rattle.hashes.specs.PieceLaws.{window-size, wrote-full}
use Rattle.hashes.specs.TurnLaws.{last-bytes}
use Rattle.hashes.proofs.units.PathUnits.state_before.Goals as goal

pub returns : goal.returns
returns c =
    let s = c.args.self.now in
    let n = s.count in
    let us : List ℕ = chain_units s.names.now s.chain.now in
    let e : c.put.new.out ≡ take 64 (drop (2 * n - 64) (unit_bytes us)) =
    wrote-full c.put.ensures (window-size s.sized (n - 32) 32 (omega arith)) ∙ last-bytes us n (omega arith) in
    c.first_state.ensures ∙ rw (e, c.first_word-first.ensures)
