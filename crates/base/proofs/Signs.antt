-- Two's complement against the machine's reading of bits, once for every width. Assumes nothing.
use mathlib.Core.Path.{◌≡◌, refl, sym, ap, ◌∙◌, subst}
use mathlib.Core.Bool.{Bool, true, false}
use mathlib.Core.Logic.{⊎_elim}
use Prim.Native.Nat.{ℕ, zero, suc, ◌-◌, ◌*◌, ◌^◌, ◌≤◌, ◌<◌}
use native.Mathlib.Nat.{zero-add, pow-suc, sub-add-eq}
use native.Mathlib.Numerals.{one-add}
use native.Mathlib.Omega.{arith}
use lib.Dec.{T, ltb}
use lib.IntN.{ℤ, pos, negsuc, ◌-ℤ◌, nat_abs}
use lib.Signed.{lt_z, non_neg}
use lib.Pow.{pow_pos}
use mir.Syntax.{Width}
use mir.Val.{Fits, SFits, bits, hbits, to_z, of_z, sel}
use mir.Facts.{to_z_pos, to_z-of_z, sfits_to_z, Fits-nat_abs}
use borrow.Author.Tests.{le-ltb, ltb-true}
use Rattle.base.specs.Choose.{lt_or_le}
use Rattle.base.specs.Signed.{twos}
use Rattle.std.specs.Prelude.{Result, Ok, Err, unsigned_abs}
use Rattle.std.specs.Result.{OkIff, result_ok}
use Rattle.std.specs.Int.{FitsUnsignedBits}
use Rattle.base.specs.Never.{never}
use Rattle.base.specs.SignedSize.{size_of}
use Rattle.base.specs.SignedLaws.{twos-low, twos-high}
use Rattle.std.specs.Prelude.{Some, None}

-- -1 - m
minus_one : (m : ℕ) → negsuc 0 -ℤ pos m ≡ negsuc m
minus_one zero = refl
minus_one (suc m) = ap (λ (n : ℕ). negsuc (suc n)) (zero-add m)

-- a width has one bit more than its half: `refl` at each
module _ (w : Width) (e : bits w ≡ suc (hbits w)) (x : ℕ) where
  to_z-high : 2 ^ hbits w ≤ x → to_z w x ≡ negsuc (2 ^ bits w - suc x)
  to_z-high l = ap (λ (b : Bool). sel b (pos x) (negsuc (2 ^ bits w - suc x))) (le-ltb x (2 ^ hbits w) l)

  -- what the machine reads is what the definition says
  pub to_z-twos : Fits w x → to_z w x ≡ twos (bits w) x
  to_z-twos f =
      ⊎_elim (λ (l : x < 2 ^ hbits w). to_z_pos w l ∙ sym (twos-low (hbits w) x l) ∙ ap (λ (k : ℕ). twos k x) (sym e))
      (λ (l : 2 ^ hbits w ≤ x). to_z-high l ∙ ap (λ (k : ℕ). negsuc (2 ^ k - suc x)) e
      ∙ sym (twos-high (hbits w) x l (subst (λ (k : ℕ). x < 2 ^ k) e f.fits)) ∙ ap (λ (k : ℕ). twos k x) (sym e))
      (lt_or_le x (2 ^ hbits w))

  -- `-1 - !x` in the upper half
  flipped : Fits w x → 2 ^ hbits w ≤ x → negsuc 0 -ℤ to_z w ((2 ^ bits w - 1) - x) ≡ to_z w x
  flipped f l =
      ap (λ (z : ℤ). negsuc 0 -ℤ z) (to_z_pos w small)
      ∙ minus_one ((2 ^ bits w - 1) - x)
      ∙ ap negsuc (sym (sub-add-eq (2 ^ bits w) 1 x) ∙ ap (λ (n : ℕ). 2 ^ bits w - n) (one-add x))
      ∙ sym (to_z-high l)
    where
      twice : 2 ^ bits w ≡ 2 ^ hbits w * 2
      twice = ap (λ (k : ℕ). 2 ^ k) e ∙ pow-suc 2 (hbits w)

      under : x < 2 ^ bits w
      under = f.fits

      small : (2 ^ bits w - 1) - x < 2 ^ hbits w
      small = omega (arith, twice, under, l, pow_pos (hbits w))

  pub flipped-fits : Fits w x → 2 ^ hbits w ≤ x → SFits w (negsuc 0 -ℤ to_z w ((2 ^ bits w - 1) - x))
  flipped-fits f l = rw (flipped f l) (sfits_to_z f)

  pub flipped-twos : Fits w x → 2 ^ hbits w ≤ x → to_z w (of_z w (negsuc 0 -ℤ to_z w ((2 ^ bits w - 1) - x))) ≡ twos (bits w) x
  flipped-twos f l = to_z-of_z (flipped-fits f l) ∙ flipped f l ∙ to_z-twos f

-- what `z < 0` and its failure say of a signed z, whose bits the machine reads back
module _ {w : Width} (z : ℤ) (f : SFits w z) where
  below-zero : (y : ℤ) → lt_z y (pos 0) ≡ true → None ≡ size_of y
  below-zero (pos n) t = absurd (omega (arith, ltb-true n 0 t))
  below-zero (negsuc n) t = refl

  not-below-zero : (y : ℤ) → lt_z y (pos 0) ≡ false → T (non_neg y)
  not-below-zero (pos n) t = tt
  not-below-zero (negsuc n) t = subst T t tt

  placed : (y : ℤ) → T (non_neg y) → Some (nat_abs y) ≡ size_of y
  placed (pos n) h = refl
  placed (negsuc n) h = absurd h

  pub no_size : lt_z (to_z w (of_z w z)) (pos 0) ≡ true → None ≡ size_of z
  no_size e = below-zero z (rw (to_z-of_z f) at e)

  pub size_fits : {v : Width} → T (ltb (hbits w) (bits v)) → lt_z (to_z w (of_z w z)) (pos 0) ≡ false
      → T (non_neg (to_z w (of_z w z))) × Fits v (nat_abs (to_z w (of_z w z)))
  size_fits t e = rw (to_z-of_z f) (not-below-zero z (rw (to_z-of_z f) at e), Fits-nat_abs t f)

  pub some_size : lt_z (to_z w (of_z w z)) (pos 0) ≡ false → Some (nat_abs (to_z w (of_z w z))) ≡ size_of z
  some_size e = ap (λ (y : ℤ). Some (nat_abs y)) (to_z-of_z f) ∙ placed z (not-below-zero z (rw (to_z-of_z f) at e))

-- what `u64::try_from` makes of a number of up to 64 bits is the size that it says
pub tried-size : {E : Type 0} (r : Result ℕ E) (z : ℤ) → ((n : ℕ) → z ≡ pos n → n < 2 ^ 64) → OkIff r (FitsUnsignedBits 64 z) (unsigned_abs z) → result_ok r ≡ size_of z
tried-size (Ok x) (pos n) b o = ap Some o.1
tried-size (Ok x) (negsuc n) b o = absurd o.0
tried-size (Err e) (pos n) b o = absurd (o (b n refl))
tried-size (Err e) (negsuc n) b o = refl

-- a number of k bits is below 2 ^ 64 where k is at most 64
pub twos-small : (k n : ℕ) → n < 2 ^ suc k → 2 ^ suc k ≤ 2 ^ 64 → (m : ℕ) → twos (suc k) n ≡ pos m → m < 2 ^ 64
twos-small k n l t m e =
    ⊎_elim (λ (h : n < 2 ^ k). same n (sym (twos-low k n h) ∙ e) (omega (arith, l, t)))
    (λ (h : 2 ^ k ≤ n). absurd (apart (sym (twos-high k n h l) ∙ e))) (lt_or_le n (2 ^ k))
  where
    same : (x : ℕ) → pos x ≡ pos m → x < 2 ^ 64 → m < 2 ^ 64
    same x q b = let z : x ≡ m = cc in rw z at b

    apart : {x : ℕ} → negsuc x ≡ pos m → ⊥
    apart q = never cc
