-- Where characters are caseless, lowering A to Z is lowering. Assumes nothing.
use Rattle.std.specs.Prelude.{◌≡◌, refl, true, ◌&&◌, ◌||◌, ◌⊎◌, ℕ, ◌≤◌, ◌<◌, leb, ltb}
use Rattle.std.proofs.Common.{sym, ◌∙◌, inl, inr, arith, lt-ltb, leb-true, ltb-true}
use Rattle.std.proofs.Math.Bool.{and-eq-true_iff}
use Rattle.lower.specs.Ascii.{lower_ascii}
use Rattle.lower.proofs.AsciiLaws.{ascii-above}
use Rattle.lower.specs.Table.{pairs}
use Rattle.lower.specs.Lower.{lower}
use Rattle.lower.specs.SearchLaws.{every}
use Rattle.rules.specs.LatinLaws.{lower_ascii_lem}
use Rattle.rules.specs.Caseless.{caseless}
use Rattle.lower.proofs.LowerLaws.{or_cases}
use Rattle.rules.specs.QuickLaws.{outside, lower-gap}

-- no first of the table lies in the three ranges
first-gap : every (outside 0x590 0x10A0) pairs ≡ true
unfolding every outside pairs
first-gap = refl

second-gap : every (outside 0x2CF3 0xA640) pairs ≡ true
unfolding every outside pairs
second-gap = refl

third-gap : every (outside 0xA7F6 0xD800) pairs ≡ true
unfolding every outside pairs
third-gap = refl

range : (a b u : ℕ) → (leb a u && ltb u b) ≡ true → (a ≤ u) × (u < b)
range a b u e = let w = (and-eq-true_iff (leb a u) (ltb u b)).0 e in (leb-true a u w.0, ltb-true u b w.1)

gap : (a b : ℕ) → 90 < a → b ≤ 0xD800 → every (outside a b) pairs ≡ true → (u : ℕ) → (a ≤ u) × (u < b) → (lower u ≡ lower_ascii u) × (u < 0xD800)
gap a b k m e u w = (lower-gap a b e u w.0 w.1 ∙ sym (ascii-above u (omega (arith, w.0))), omega (arith, w.1))

pub ascii-caseless : (u : ℕ) → u < 0x80 → caseless u ≡ true
unfolding caseless
ascii-caseless u h = rw (lt-ltb u 0x80 h)

pub caseless-lower : (u : ℕ) → caseless u ≡ true → (lower u ≡ lower_ascii u) × (u < 0xD800)
unfolding caseless
caseless-lower u e = third (or_cases _ _ e)
  where
    ascii : u < 0x80 → (lower u ≡ lower_ascii u) × (u < 0xD800)
    ascii h = (lower_ascii_lem u (omega arith), omega arith)

    first : (ltb u 0x80 ≡ true) ⊎ ((leb 0x590 u && ltb u 0x10A0) ≡ true) → (lower u ≡ lower_ascii u) × (u < 0xD800)
    first (inl k) = ascii (ltb-true u 0x80 k)
    first (inr k) = gap 0x590 0x10A0 (omega arith) (omega arith) first-gap u (range 0x590 0x10A0 u k)

    second : ((ltb u 0x80 || (leb 0x590 u && ltb u 0x10A0)) ≡ true) ⊎ ((leb 0x2CF3 u && ltb u 0xA640) ≡ true) → (lower u ≡ lower_ascii u) × (u < 0xD800)
    second (inl k) = first (or_cases _ _ k)
    second (inr k) = gap 0x2CF3 0xA640 (omega arith) (omega arith) second-gap u (range 0x2CF3 0xA640 u k)

    third : ((ltb u 0x80 || (leb 0x590 u && ltb u 0x10A0) || (leb 0x2CF3 u && ltb u 0xA640)) ≡ true) ⊎ ((leb 0xA7F6 u && ltb u 0xD800) ≡ true)
        → (lower u ≡ lower_ascii u) × (u < 0xD800)
    third (inl k) = second (or_cases _ _ k)
    third (inr k) = gap 0xA7F6 0xD800 (omega arith) (omega arith) third-gap u (range 0xA7F6 0xD800 u k)
