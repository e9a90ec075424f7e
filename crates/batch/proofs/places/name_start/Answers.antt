-- `name_start` meets its contract: each turn goes one name on.
use mathlib.Core.Path.{◌≡◌, sym, ◌∙◌}
use Prim.Native.Nat.{◌+◌, ◌*◌, ◌-◌}
use native.Mathlib.Omega.{arith}
use Rattle.batch.specs.Batch.{head_at}
use Rattle.batch.specs.PlacesLaws.{start_none, start-step, start_mono}
use Rattle.batch.proofs.places.name_start.Goals as goal

pub overflow_add-p : goal.overflow_add-p
overflow_add-p c =
    let l = c.loop-k in
    let a = c.args in
    let h = a.from + 2 * l.k in
    let z = start_mono a.s.now (h + 2) (l.p + (head_at a.s.now h).size) (a.i - l.k - 1) in
    let y = start-step a.s.now h l.p (a.i - l.k) (omega arith) in
    rw c.read_head-p.ensures.0 (omega (arith, c.requires.1, l.invariant))

pub loop-k-preserved : goal.loop-k-preserved
loop-k-preserved c =
    let l = c.loop-k in
    let a = c.args in
    let e : a.from + 2 * (l.k + 1) ≡ a.from + 2 * l.k + 2 = omega arith in
    let f : a.i - (l.k + 1) ≡ a.i - l.k - 1 = omega arith in
    rw (c.read_head-p.ensures.0, e, f) (l.invariant ∙ start-step a.s.now (a.from + 2 * l.k) l.p (a.i - l.k) (omega arith))

pub returns : goal.returns
returns c =
    let l = c.loop-k in
    let a = c.args in
    sym (l.invariant ∙ start_none a.s.now (a.from + 2 * l.k) l.p (a.i - l.k) (omega arith))
