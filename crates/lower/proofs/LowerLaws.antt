-- Laws of lowering. Assumes nothing.
use Rattle.std.specs.Prelude.{◌≡◌, refl, Bool, true, false, not, ◌&&◌, ◌||◌, List, [], ◌∷◌, ◌⊎◌, ℕ, ◌*◌, ◌-◌, ◌/◌, ◌≤◌, ◌<◌, eqb, leb, ltb, length}
use Rattle.std.proofs.Common.{sym, ap, ◌∙◌, inl, inr, arith, lt-ltb, le-ltb, ltb-true, leb-true, eqb-true, eq-eqb, ne_eqb}
use Rattle.std.proofs.Math.Bool.{and-eq-true_iff}
use Rattle.std.proofs.Math.Logic.{by_cases}
use Rattle.std.proofs.Math.Decide.{dec_lt}
use Rattle.lower.specs.Table.{pairs}
use Rattle.lower.specs.Lower.{second_of, lower, flat}
use Rattle.lower.specs.SearchLaws.{second-every, flat-length}
use Rattle.lower.specs.TableLaws.{count, no_first, is_first, no_second-first, alike, pairs-alike}
pub use Rattle.lower.specs.LowerLaws.{Alike}

pub lower-is : (c : ℕ) → lower c ≡ second_of c pairs
unfolding lower
lower-is c = refl

-- the table as the code has it
pub table-length : length pairs ≡ 1487
table-length = count

-- the same laid flat
pub flat-table-length : length (flat pairs) ≡ 2974
flat-table-length = flat-length pairs ∙ ap (λ (n : ℕ). 2 * n) table-length

-- ---- once is enough

not_first : (c : ℕ) (ps : List (ℕ × ℕ)) → not (is_first c ps) ≡ true → second_of c ps ≡ c
unfolding is_first second_of
not_first c [] e = refl
not_first c (p ∷ ps) e =
    by_cases (dec_lt c p.0)
    (λ (l : c < p.0). rw (lt-ltb c p.0 l))
    (λ (l : ¬ (c < p.0)). by_cases (dec_lt p.0 c)
    (λ (g : p.0 < c). rw (le-ltb c p.0 (omega arith), lt-ltb p.0 c g) (not_first c ps (rw (ne_eqb p.0 c (λ (q : p.0 ≡ c). omega arith)) at e)))
    (λ (g : ¬ (p.0 < c)). let f : not true ≡ true = rw (eq-eqb p.0 c (omega arith)) at e in absurd (let z : ◌≡◌ {A = ℕ} 0 1 = cc in omega arith)))

pub lower-lower : (c : ℕ) → lower (lower c) ≡ lower c
unfolding no_first
lower-lower c = rw (lower-is c, lower-is (second_of c pairs)) (go (second-every no_first pairs no_second-first c))
  where
    go : (second_of c pairs ≡ c) ⊎ (no_first c (second_of c pairs) ≡ true) → second_of (second_of c pairs) pairs ≡ second_of c pairs
    go (inl e) = ap (λ (x : ℕ). second_of x pairs) e
    go (inr e) = not_first (second_of c pairs) pairs e

-- which half of a test holds
pub or_cases : (x y : Bool) → (x || y) ≡ true → (x ≡ true) ⊎ (y ≡ true)
or_cases true y e = inl refl
or_cases false y e = inr e

and_both : (x y : Bool) → (x && y) ≡ true → (x ≡ true) × (y ≡ true)
and_both x y e = (and-eq-true_iff x y).0 e

alike-true : (a b : ℕ) → alike a b ≡ true → Alike a b
unfolding alike
alike-true a b e = first (or_cases _ _ e)
  where
    low : (ltb a 0xD800 && ltb b 0xD800) ≡ true → Alike a b
    low e = let w = and_both _ _ e in inl (ltb-true _ _ w.0, ltb-true _ _ w.1)

    high : (leb 0xE000 a && ltb a 0x10000 && leb 0xE000 b && ltb b 0x10000) ≡ true → Alike a b
    high e =
        let w = and_both _ _ e in
        let v = and_both _ _ w.0 in
        let u = and_both _ _ v.0 in
        inr (inl (leb-true _ _ u.0, ltb-true _ _ u.1, leb-true _ _ v.1, ltb-true _ _ w.1))

    second : ((ltb a 0xD800 && ltb b 0xD800) ≡ true) ⊎ ((leb 0xE000 a && ltb a 0x10000 && leb 0xE000 b && ltb b 0x10000) ≡ true) → Alike a b
    second (inl e) = low e
    second (inr e) = high e

    above : (leb 0x10000 a && leb 0x10000 b && leb b 0x10FFFF && eqb ((a - 0x10000) / 0x400) ((b - 0x10000) / 0x400)) ≡ true → Alike a b
    above e =
        let w = and_both _ _ e in
        let v = and_both _ _ w.0 in
        let u = and_both _ _ v.0 in
        inr (inr (leb-true _ _ u.0, leb-true _ _ u.1, leb-true _ _ v.1, eqb-true _ _ w.1))

    first : ((ltb a 0xD800 && ltb b 0xD800) || (leb 0xE000 a && ltb a 0x10000 && leb 0xE000 b && ltb b 0x10000) ≡ true)
        ⊎ ((leb 0x10000 a && leb 0x10000 b && leb b 0x10FFFF && eqb ((a - 0x10000) / 0x400) ((b - 0x10000) / 0x400)) ≡ true) → Alike a b
    first (inl e) = second (or_cases _ _ e)
    first (inr e) = above e

-- lowering keeps a scalar value on its side of the surrogates, or its leading surrogate
pub lower-alike : (c : ℕ) → (lower c ≡ c) ⊎ Alike c (lower c)
lower-alike c = rw (lower-is c) (go (second-every alike pairs pairs-alike c))
  where
    go : (second_of c pairs ≡ c) ⊎ (alike c (second_of c pairs) ≡ true) → (second_of c pairs ≡ c) ⊎ Alike c (second_of c pairs)
    go (inl e) = inl e
    go (inr e) = inr (alike-true c (second_of c pairs) e)

-- one unit stays one unit
pub lower-single : (c : ℕ) → c < 0x10000 → lower c < 0x10000
lower-single c h = go (lower-alike c)
  where
    go : (lower c ≡ c) ⊎ Alike c (lower c) → lower c < 0x10000
    go (inl e) = omega arith
    go (inr (inl w)) = omega (arith, w.1)
    go (inr (inr (inl w))) = omega (arith, w.3)
    go (inr (inr (inr w))) = absurd (omega (arith, w.0))

-- two units stay two, with their leading surrogate
pub lower_double : (c : ℕ) → 0x10000 ≤ c → (0x10000 ≤ lower c) × ((lower c - 0x10000) / 0x400 ≡ (c - 0x10000) / 0x400)
lower_double c h = go (lower-alike c)
  where
    go : (lower c ≡ c) ⊎ Alike c (lower c) → (0x10000 ≤ lower c) × ((lower c - 0x10000) / 0x400 ≡ (c - 0x10000) / 0x400)
    go (inl e) = (omega arith, rw e)
    go (inr (inl w)) = absurd (omega (arith, w.0))
    go (inr (inr (inl w))) = absurd (omega (arith, w.1))
    go (inr (inr (inr w))) = (w.1, sym w.3)

-- document 02: "U+0130 .. stays"
pub dotted_stays : lower 0x130 ≡ 0x130
unfolding lower
dotted_stays = refl
