-- `short::few_hash`: by the first and the last word, where there are four units or more. Assumes nothing.
use mathlib.Core.Path.{sym, ◌∙◌}
use mathlib.Core.List.{List}
use Prim.Native.Nat.{ℕ}
use native.Mathlib.Omega.{arith}
use Rattle.ids.proofs.ShortUnits.{units-two}
use Rattle.ids.proofs.short.few_hash.Goals as goal

pub returns-then-n-gt4 : goal.returns-then-n-gt4
returns-then-n-gt4 g c =
    let us : List ℕ = g.U.Units.units c.args.name in
    rw (c.hash_two.ensures, c.word.ensures, c.word-then-n-gt4.ensures) (sym (units-two us c.count-n.result c.count-n.ensures (omega arith) (omega arith)))

pub returns-then-n-eq4 : goal.returns-then-n-eq4
returns-then-n-eq4 g c =
    let us : List ℕ = g.U.Units.units c.args.name in
    rw (c.hash_two-then-n-eq4.ensures, c.word-first.ensures) (sym (units-two us 4 (sym c.if-n-eq4.true ∙ c.count-n.ensures) (omega arith) (omega arith)))
