-- `digits::put_hex` meets its contract. The invariant: behind the first i bytes stand the digits that those of `rest` lack. Assumes nothing.
use mathlib.Core.Path.{◌≡◌, sym, ◌∙◌}
use mathlib.Core.List.{List, ◌∷◌, ◌++◌, append_assoc}
use Prim.Native.Nat.{ℕ, zero, suc, ◌-◌, ◌/◌, ◌%◌, ◌≤◌, ◌<◌}
use native.Mathlib.Numerals.{sub-one}
use native.Mathlib.Omega.{arith}
use lib.ListN.{length, set, get_or, take, drop, length-set}
use lib.Seq.{take-suc, set_at, length-take-le}
use Rattle.base.specs.Output.{over, Wrote}
use Rattle.text.specs.Digits.{hex_digit, hex}
use Rattle.text.specs.DigitsLaws.{length-hex, hex-none, hex-more}
use Rattle.text.proofs.digits.put_hex.Goals as goal

-- the last digit goes to those behind it
last_digit : (k n : ℕ) (t : List ℕ) → 0 < k → hex k n ++ t ≡ hex (k - 1) (n / 16) ++ (hex_digit (n % 16) ∷ t)
last_digit k n t h =
    let z : k ≡ 0 → ⊥ = λ e. omega arith in
    rw (← hex-more k n z, append_assoc)

-- one byte more in front of t, which stands behind the first n bytes of s
store-front : (s t : List ℕ) (n v : ℕ) → 0 < n → n ≤ length s → set (take n s ++ t) (n - 1) v ≡ take (n - 1) s ++ (v ∷ t)
store-front s t zero v h l = absurd (omega arith)
store-front s t (suc m) v h l =
    let r : m ≤ length s = omega arith in
    rw (sub-one, take-suc s m 0 l, append_assoc) (set_at (take m s) (get_or s m 0) t v m (length-take-le m s r))

-- all digits stand
finish : (s o t : List ℕ) (k n rest left : ℕ) → left ≡ 0 → k ≤ length s → hex k n ≡ hex left rest ++ t → o ≡ take left s ++ (t ++ drop k s)
    → Wrote s (hex k n) o k
unfolding over
finish s o t k n rest left z h e f =
    let all : hex k n ≡ t = e ∙ rw (hex-none rest z) in
    record { size = sym (length-hex k n); fits = h; is = f ∙ rw (z, length-hex k n, all) }

pub loop-i-preserved : goal.loop-i-preserved
loop-i-preserved c =
    let l = c.loop-i in
    let out = c.args.out.now in
    let t = l.invariant.1.0 in
    let h : 0 < l.i = omega arith in
    let room : l.i ≤ length out = omega arith in (
      simp length-set (omega arith),
      (hex_digit (l.rest % 16) ∷ t, l.invariant.1.1 ∙ last_digit l.i l.rest t h, rw (c.hex_digit.ensures, l.invariant.1.2) (store-front out _ l.i _ h room)),
    )

pub returns : goal.returns
returns c =
    let l = c.loop-i in
    let z : l.i ≡ 0 = omega arith in
    finish _ _ l.invariant.1.0 _ _ l.rest l.i z c.requires l.invariant.1.1 l.invariant.1.2
