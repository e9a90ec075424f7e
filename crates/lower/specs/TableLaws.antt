-- What is shown over the whole table, by one computed test each. Assumes nothing.
use Rattle.std.specs.Prelude.{◌≡◌, refl, Bool, true, false, not, ◌&&◌, ◌||◌, List, [], ◌∷◌, ℕ, ◌-◌, ◌/◌, eqb, leb, ltb, length}
use Rattle.lower.specs.Table.{pairs}
use Rattle.lower.specs.SearchLaws.{rising, every}

pub count : length pairs ≡ 1487
unfolding pairs
count = refl

-- document 02: "in rising order of the first"
pub firsts-rise : rising 0 pairs ≡ true
unfolding pairs rising
firsts-rise = refl

-- whether c is the first of a pair
unfoldable pub is_first : ℕ → List (ℕ × ℕ) → Bool
is_first c [] = false
is_first c (p ∷ ps) = eqb p.0 c || is_first c ps

-- document 02: "no second is a first"
unfoldable pub no_first : ℕ → ℕ → Bool
no_first a b = not (is_first b pairs)

pub no_second-first : every no_first pairs ≡ true
unfolding pairs every no_first is_first
no_second-first = refl

-- two scalar values of one unit each, on one side of the surrogates, or of two units each with one leading surrogate
unfoldable pub alike : ℕ → ℕ → Bool
alike a b =
    (ltb a 0xD800 && ltb b 0xD800) || (leb 0xE000 a && ltb a 0x10000 && leb 0xE000 b && ltb b 0x10000)
    || (leb 0x10000 a && leb 0x10000 b && leb b 0x10FFFF && eqb ((a - 0x10000) / 0x400) ((b - 0x10000) / 0x400))

pub pairs-alike : every alike pairs ≡ true
unfolding pairs every alike
pairs-alike = refl
