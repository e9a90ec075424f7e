-- `units::PathUnits::first_word` meets its contract: four units fill the word. Assumes nothing.
use mathlib.Core.Path.{◌≡◌, ◌∙◌, ap}
use mathlib.Core.List.{List}
use Prim.Native.Nat.{ℕ}
use native.Mathlib.Omega.{arith}
use lib.ListN.{take}
use Rattle.base.specs.Number.{le_at}
use Rattle.text.specs.Utf16.{unit_bytes}
use Rattle.hashes.specs.Chain.{chain_units}
use Rattle.hashes.specs.PieceLaws.{window-size, wrote-full}
use Rattle.hashes.specs.TurnLaws.{word_bytes}
use Rattle.hashes.proofs.units.PathUnits.first_word.Goals as goal

pub returns : goal.returns
returns c =
    let s = c.args.self.now in
    let us : List ℕ = chain_units s.names.now s.chain.now in
    let e : c.put.new.out ≡ unit_bytes (take 4 us) = wrote-full c.put.ensures (window-size s.sized 0 4 (omega arith)) in
    c.le64.ensures ∙ ap (λ (l : List ℕ). le_at 8 l 0) e ∙ word_bytes us
