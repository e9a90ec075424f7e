-- What the numbers of refusals and kinds say: a refusal's is never 0, so that 0 says that nothing is refused; a kind's is its own.
use mathlib.Core.Path.{◌≡◌}
use native.Mathlib.Omega.{arith}
use Rattle.base.specs.Kind.{kind_number}
use Rattle.base.specs.Refusal.{number}
use Rattle.base.specs.declared.index.Kind.{Kind}
use Rattle.base.specs.declared.refusal.Refusal.{Refusal}

pub number-some : (r : Refusal) → number r ≡ 0 → ⊥
number-some r q = grind arith

pub kind-same : (j k : Kind) → kind_number j ≡ kind_number k → j ≡ k
kind-same j k q = grind arith
