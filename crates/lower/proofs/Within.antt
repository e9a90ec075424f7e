-- The tests of a range, as `contains` makes them by comparisons. Assumes nothing.
use Rattle.std.specs.Prelude.{◌≡◌, ℕ, ◌<◌, leb, ltb}
use Rattle.std.specs.Ordering.{nat_cmp, is_le, is_lt}
use Rattle.std.proofs.Common.{arith, le-leb, lt-ltb, le-ltb, eq-eqb, ne_eqb}
use Rattle.std.proofs.lemmas.Bool.{lt-leb}
use Rattle.std.proofs.Math.Logic.{by_cases}
use Rattle.std.proofs.Math.Decide.{dec_lt}

-- `a <= b`
pub cmp-le : (a b : ℕ) → is_le (nat_cmp a b) ≡ leb a b
cmp-le a b =
    by_cases (dec_lt a b)
    (λ (l : a < b). rw (lt-ltb a b l, le-leb a b (omega arith)))
    (λ (l : ¬ (a < b)). by_cases (dec_lt b a)
    (λ (g : b < a). rw (le-ltb a b (omega arith), ne_eqb a b (λ e. omega arith), lt-leb a b g))
    (λ (g : ¬ (b < a)). rw (le-ltb a b (omega arith), eq-eqb a b (omega arith), le-leb a b (omega arith))))

-- `a < b`
pub cmp-lt : (a b : ℕ) → is_lt (nat_cmp a b) ≡ ltb a b
cmp-lt a b =
    by_cases (dec_lt a b)
    (λ (l : a < b). rw (lt-ltb a b l))
    (λ (l : ¬ (a < b)). by_cases (dec_lt b a)
    (λ (g : b < a). rw (le-ltb a b (omega arith), ne_eqb a b (λ e. omega arith)))
    (λ (g : ¬ (b < a)). rw (le-ltb a b (omega arith), eq-eqb a b (omega arith))))
