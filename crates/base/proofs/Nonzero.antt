-- A number that says "none" by 0, and the option in its place. Assumes nothing.
use Rattle.std.specs.Prelude.{◌≡◌, ℕ, zero, suc, ◌<◌, true, false, eqb, Some, None}
use Rattle.std.proofs.Common.{refl, arith}
use Rattle.std.specs.Option.{option_eq}
use Rattle.std.proofs.lemmas.Bool.{eqb-true, eqb-false}
use Rattle.base.specs.Never.{never}
use Rattle.base.specs.OneMore.{nonzero}

pub some-is : (n : ℕ) → 0 < n → Some n ≡ nonzero n
some-is zero h = absurd (omega arith)
some-is (suc n) h = refl

pub some-was : (n m : ℕ) → nonzero n ≡ Some m → (n ≡ m) × (0 < m)
some-was zero m q = never (cc)
some-was (suc n) m q = let e : suc n ≡ m = cc in (e, omega arith)

pub none-was : (n : ℕ) → nonzero n ≡ None → n ≡ 0
none-was zero q = refl
none-was (suc n) q = never (cc)

-- what a comparison with a number says
pub same-number : (n m : ℕ) → option_eq eqb (nonzero n) (Some m) ≡ true → n ≡ m
same-number zero m q = never (cc)
same-number (suc n) m q = eqb-true (suc n) m q

pub other-number : (n m : ℕ) → option_eq eqb (nonzero n) (Some m) ≡ false → 0 < m → n ≡ m → ⊥
other-number zero m q h e = omega arith
other-number (suc n) m q h e = eqb-false (suc n) m q e
