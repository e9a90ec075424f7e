-- `units::PathUnits::long_hash` meets its contract. The loop's invariant: the turns left, over the bytes from here on, end where all turns end.
-- Assumes nothing.
use mathlib.Core.Path.{◌≡◌, sym, ◌∙◌, ap}
use mathlib.Core.List.{List}
use Prim.Native.Nat.{ℕ, ◌+◌, ◌-◌, ◌*◌, ◌/◌}
use native.Mathlib.Omega.{arith}
use lib.ListN.{drop}
use Rattle.city.specs.City.{turns, finish}
use Rattle.city.specs.CityLaws.{turns_end}
use Rattle.text.specs.Utf16.{unit_bytes}
use Rattle.hashes.specs.Chain.{chain_units}
use Rattle.hashes.specs.PieceLaws.{chain_length}
use Rattle.hashes.specs.TurnLaws.{turns-step16, hash-long}
use Rattle.hashes.proofs.units.PathUnits.long_hash.Goals.{else-loop-i-test, then-loop-i-test+else-turns-i-gt16}
use Rattle.hashes.proofs.units.PathUnits.long_hash.Goals as goal

pub loop-i-preserved : goal.loop-i-preserved
loop-i-preserved c =
    let l = c.loop-i in
    let s = c.args.self.now in
    let bytes : List ℕ = unit_bytes (chain_units s.names.now s.chain.now) in
    rw c.turns_from-t.ensures (turns-step16 ((2 * s.count - 1) / 64) l.i c.min.result bytes l.t c.min.ensures ∙ l.invariant)

pub returns : goal.returns
returns c =
    let l = c.loop-i in
    let s = c.args.self.now in
    let us : List ℕ = chain_units s.names.now s.chain.now in
    let all : ℕ = (2 * s.count - 1) / 64 in
    let bytes : List ℕ = unit_bytes us in
    let last : c.loop-i-test.t ≡ turns all bytes c.state_before-t.result = elim c.loop-i-test.branch [
      | else-loop-i-test w ↦ w.t-is ∙ (sym (turns_end (all - l.i) (drop (64 * l.i) bytes) l.t (omega (arith, w.loop-i-test.false))) ∙ l.invariant)
      | then-loop-i-test+else-turns-i-gt16 w ↦
          let h = turns-step16 all l.i w.min.result bytes l.t w.min.ensures in
          w.t-is ∙ (sym (turns_end (all - (l.i + 16)) (drop (64 * (l.i + 16)) bytes) w.turns_from-t.result (omega arith)) ∙ rw w.turns_from-t.ensures (h ∙ l.invariant))
    ] in
    c.last_mix.ensures ∙ ap finish (last ∙ ap (turns all bytes) c.state_before-t.ensures)
    ∙ sym (hash-long us s.count (sym (chain_length s.names.now s.chain.now s.count s.sized.count)) c.requires)
