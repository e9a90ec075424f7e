-- `units::slash_units` meets its contract. The loop's invariant: what is in front, and the units left slashed, are all units slashed. Assumes
-- nothing.
use mathlib.Core.Path.{◌≡◌, sym, ◌∙◌, ap}
use mathlib.Core.List.{◌++◌}
use Prim.Native.Nat.{ℕ, suc, ◌+◌, ◌-◌, ◌*◌, ◌≤◌}
use native.Mathlib.Omega.{arith}
use lib.ListN.{take, drop, length-set}
use Rattle.hashes.specs.Slash.{slash_bytes}
use Rattle.hashes.specs.SlashLaws.{slash-step, slash_end}
use Rattle.hashes.proofs.units.slash_units.Goals as goal

pub loop-i-preserved : goal.loop-i-preserved
loop-i-preserved c =
    let l = c.loop-i in
    let e : suc (c.args.n - (l.i + 1)) ≡ c.args.n - l.i = omega arith in
    let at : 2 * (l.i + 1) ≡ 2 * l.i + 2 = omega arith in (
      omega arith,
      simp length-set (omega arith),
      rw at (slash-step l.out (2 * l.i) (c.args.n - (l.i + 1)) (omega arith) c.slash_low.ensures)
          ∙ ap (λ (k : ℕ). take (2 * l.i) l.out ++ slash_bytes k (drop (2 * l.i) l.out)) e ∙ l.invariant.2,
    )

pub returns : goal.returns
returns c =
    let l = c.loop-i in
    let z : c.args.n - l.i ≤ 0 = omega arith in
    sym (slash_end l.out (2 * l.i) (c.args.n - l.i) z) ∙ l.invariant.2
