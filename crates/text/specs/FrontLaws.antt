-- Laws of the ASCII units in front: how many there are, by the lowest set bit of their number, and what they mean. Assumes nothing.
use Rattle.std.specs.Prelude.{◌≡◌, refl, Bool, true, false, cond, ◌⊎◌, ltb, length, take, drop, get_or}
use Rattle.std.proofs.Common.{sym, ◌∙◌, ap, inl, inr, add-zero, zero-add, suc-add, pow-suc, arith, lt-ltb, le-ltb, ltb-true, ltb-false, length-drop, get_or-drop, length-take-le}
use Rattle.std.proofs.Math.Bool.{and-eq-true_iff}
use mathlib.Core.List.{List, [], ◌∷◌, ◌++◌}
use Prim.Native.Nat.{ℕ, zero, suc, ◌+◌, ◌*◌, ◌/◌, ◌%◌, ◌^◌, ◌≤◌, ◌<◌}
use Rattle.std.specs.Int.Bits.{bit_and, block_half, block_odd, shifted_half, shifted_even}
use Rattle.std.proofs.lemmas.Nat.{and_le_r, and_block}
use Rattle.std.proofs.lemmas.Nat.Bits.{and_high}
use Rattle.std.specs.Int.Count.{count_trailing_zeros, under}
use Rattle.base.specs.Choose.{lt_or_le}
use Rattle.base.specs.Number.{le, le_at}
use Rattle.base.specs.NumberLaws.{Bytes, bytes-part, le_at-is}
use Rattle.text.specs.Affix.{all_ascii}
use Rattle.text.specs.AffixLaws.{units-take}
use Rattle.text.specs.Utf16.{is_well, scalars, units, utf16}
use Rattle.text.specs.Utf16Cases.{utf16-single, is_well-more, scalars-more}
use Rattle.text.specs.Utf8.{utf8}
use Rattle.text.specs.Utf8Laws.{utf8_1}
use Rattle.text.specs.Units.{units_of}
use Rattle.text.specs.UnitsLaws.{units_of-length, units_of-words}
use Rattle.text.specs.Front.{ascii_front, lows}

-- ---- the lowest set bit

-- below it, digits of a number that is 0, and digits of one that is not
zeros-below : (j k hi : ℕ) → count_trailing_zeros (j + k) (hi * 2 ^ j) ≡ j + count_trailing_zeros k hi
unfolding count_trailing_zeros
zeros-below zero k hi =
    let e : hi * 2 ^ 0 ≡ hi = omega arith in
    rw (e, zero-add k, zero-add (count_trailing_zeros k hi))
zeros-below (suc j) k hi = rw (suc-add j k, shifted_even hi j, shifted_half hi j, zeros-below j k hi, suc-add j (count_trailing_zeros k hi))

under-lt : (d t j : ℕ) → (d ≡ 0 → t < j) → under d t < suc j
under-lt zero t j f = let h = f refl in omega arith
under-lt (suc d) t j f = omega arith

set_below : (j k hi lo : ℕ) → 0 < lo → lo < 2 ^ j → count_trailing_zeros (j + k) (hi * 2 ^ j + lo) < j
unfolding count_trailing_zeros
set_below zero k hi lo p h = absurd (omega arith)
set_below (suc j) k hi lo p h =
    rw (suc-add j k, block_odd hi j lo, block_half hi j lo)
    (under-lt (lo % 2) (count_trailing_zeros (j + k) (hi * 2 ^ j + lo / 2)) j
    (λ (e : lo % 2 ≡ 0). set_below j k hi (lo / 2) (omega arith) (half j h)))
  where
    half : (j : ℕ) → lo < 2 ^ suc j → lo / 2 < 2 ^ j
    half j h = omega (arith, pow-suc 2 j)

-- ---- units of b bits, m the bits of a unit that ASCII has not

abbrev number : ℕ → List ℕ → ℕ
number b [] = 0
number b (u ∷ us) = number b us * 2 ^ b + u

abbrev mask : ℕ → ℕ → ℕ → ℕ
mask b m zero = 0
mask b m (suc n) = mask b m n * 2 ^ b + m

abbrev bits : ℕ → ℕ → ℕ
bits b zero = 0
bits b (suc n) = b + bits b n

module _ (b m : ℕ) (pos : 0 < b) (fits : m < 2 ^ b) (low : (u : ℕ) → u < 128 → bit_and u m ≡ 0) (high : (u : ℕ) → 128 ≤ u → u < 2 ^ b → 0 < bit_and u m)
    (none : (t : ℕ) → t < b → t / b ≡ 0) (more : (t : ℕ) → (b + t) / b ≡ suc (t / b)) where
  count : (us : List ℕ) → ((i : ℕ) → get_or us i 0 < 2 ^ b) → count_trailing_zeros (bits b (length us)) (bit_and (number b us) (mask b m (length us))) / b ≡ ascii_front (length us) us
  unfolding ascii_front count_trailing_zeros
  count [] w = none 0 pos
  count (u ∷ us) w =
      rw (and_block b (number b us) (mask b m (length us)) u m (w 0) fits) (go (lt_or_le u 128) (count us (λ i. w (suc i))))
    where
      x : ℕ
      x = bit_and (number b us) (mask b m (length us))

      go : (u < 128) ⊎ (128 ≤ u) → count_trailing_zeros (bits b (length us)) x / b ≡ ascii_front (length us) us
          → count_trailing_zeros (b + bits b (length us)) (x * 2 ^ b + bit_and u m) / b ≡ cond (ltb u 128) (suc (ascii_front (length us) us)) 0
      go (inl h) e = rw (low u h, add-zero (x * 2 ^ b), zeros-below b (bits b (length us)) x, more, e, lt-ltb u 128 h)
      go (inr h) e =
          let l : bit_and u m < 2 ^ b = omega (arith, and_le_r u m) in
          rw (le-ltb u 128 h) (none _ (set_below b (bits b (length us)) x (bit_and u m) (high u h (w 0)) l))

-- ---- eight bytes, four units

-- the first n units decide
front-take : (n : ℕ) (us : List ℕ) → ascii_front n (take n us) ≡ ascii_front n us
unfolding ascii_front
front-take zero us = refl
front-take (suc n) [] = refl
front-take (suc n) (u ∷ us) = rw (front-take n us)

number_bytes_lem : (l : List ℕ) → number 8 l ≡ le l
number_bytes_lem [] = refl
number_bytes_lem (x ∷ l) = rw (number_bytes_lem l) (omega arith)

number-units : (n : ℕ) (l : List ℕ) → length l ≡ 2 * n → number 16 (units l) ≡ le l
unfolding units
number-units n [] h = refl
number-units n (x ∷ []) h = absurd (omega arith)
number-units zero (x ∷ y ∷ l) h = absurd (omega arith)
number-units (suc n) (x ∷ y ∷ l) h = rw (number-units n l (omega arith)) (omega arith)

byte_low : (u : ℕ) → u < 128 → bit_and u 0x80 ≡ 0
byte_low u h = let e : u / 128 ≡ 0 = omega arith in and_high u 1 7 ∙ rw e

byte_high : (u : ℕ) → 128 ≤ u → u < 2 ^ 8 → 0 < bit_and u 0x80
byte_high u l h = let e : u / 128 ≡ 1 = omega arith in rw (and_high u 1 7, e) (omega arith)

unit-low : (u : ℕ) → u < 128 → bit_and u 0xFF80 ≡ 0
unit-low u h = let e : u / 128 ≡ 0 = omega arith in and_high u 9 7 ∙ rw e

unit-high : (u : ℕ) → 128 ≤ u → u < 2 ^ 16 → 0 < bit_and u 0xFF80
unit-high u l h = rw (and_high u 9 7) (omega arith)

pub front_bytes_lem : (s : List ℕ) (i : ℕ) → Bytes s → i + 8 ≤ length s
    → count_trailing_zeros 64 (bit_and (le_at 8 s i) 0x8080808080808080) / 8 ≡ ascii_front 8 (drop i s)
front_bytes_lem s i b h =
    let l = take 8 (drop i s) in
    let e : length l ≡ 8 = length-take-le 8 (drop i s) (simp length-drop (omega arith)) in
    let c = count 8 0x80 (omega arith) (omega arith) byte_low byte_high (λ t h. omega arith) (λ t. omega arith) l (bytes-part 8 i s b) in
    rw (le_at-is 8 s i) (rw (number_bytes_lem l, e, front-take 8 (drop i s)) at c)

-- the bytes of units
units-drop : (i : ℕ) (s : List ℕ) → drop i (units s) ≡ units (drop (2 * i) s)
unfolding units
units-drop zero s = refl
units-drop (suc i) [] = let e : 2 * suc i ≡ suc (suc (2 * i)) = omega arith in rw e
units-drop (suc i) (x ∷ []) = let e : 2 * suc i ≡ suc (suc (2 * i)) = omega arith in rw e
units-drop (suc i) (x ∷ y ∷ s) = let e : 2 * suc i ≡ suc (suc (2 * i)) = omega arith in rw (e, units-drop i s)

pub front-units : (s : List ℕ) (i : ℕ) → Bytes s → i + 4 ≤ length (units_of true s)
    → count_trailing_zeros 64 (bit_and (le_at 8 s (2 * i)) 0xFF80FF80FF80FF80) / 16 ≡ ascii_front 4 (drop i (units_of true s))
unfolding units_of
front-units s i b h =
    let l = take 8 (drop (2 * i) s) in
    let e : length l ≡ 8 = length-take-le 8 (drop (2 * i) s) (simp length-drop (omega (arith, units_of-length s))) in
    let n : length (units l) ≡ 4 = units_of-length l ∙ rw e in
    let t : units l ≡ take 4 (drop i (units s)) = units-take 8 (drop (2 * i) s) ∙ rw (units-drop i s) in
    let c = count 16 0xFF80 (omega arith) (omega arith) unit-low unit-high (λ t h. omega arith) (λ t. omega arith) (units l) (units_of-words true l (bytes-part 8 (2 * i) s b)) in
    let d : count_trailing_zeros 64 (bit_and (le l) 0xFF80FF80FF80FF80) / 16 ≡ ascii_front 4 (units l) = rw (number-units 4 l e, n) at c in
    rw (le_at-is 8 s (2 * i)) (d ∙ rw (t, front-take 4 (drop i (units s))))

-- ---- the units in front

pub front-most : (n : ℕ) (us : List ℕ) → ascii_front n us ≤ n
unfolding ascii_front
front-most zero us = omega arith
front-most (suc n) [] = omega arith
front-most (suc n) (u ∷ us) = go (ltb u 128) (front-most n us)
  where
    go : (t : Bool) → ascii_front n us ≤ n → cond t (suc (ascii_front n us)) 0 ≤ suc n
    go true h = omega arith
    go false h = omega arith

-- they are ASCII, and the next one is not
pub front-ascii : (n : ℕ) (us : List ℕ) → all_ascii (take (ascii_front n us) us) ≡ true
unfolding ascii_front
front-ascii zero us = refl
front-ascii (suc n) [] = refl
front-ascii (suc n) (u ∷ us) = go (ltb u 128) refl (front-ascii n us)
  where
    go : (t : Bool) → ltb u 128 ≡ t → all_ascii (take (ascii_front n us) us) ≡ true → all_ascii (take (cond t (suc (ascii_front n us)) 0) (u ∷ us)) ≡ true
    go true e h = rw (e, h)
    go false e h = refl

pub front-next : (n : ℕ) (us : List ℕ) → n ≤ length us → ascii_front n us < n → 128 ≤ get_or us (ascii_front n us) 0
unfolding ascii_front
front-next zero us l h = absurd (omega arith)
front-next (suc n) [] l h = absurd (omega arith)
front-next (suc n) (u ∷ us) l h = go (ltb u 128) refl h (front-next n us (omega arith))
  where
    go : (t : Bool) → ltb u 128 ≡ t → cond t (suc (ascii_front n us)) 0 < suc n → (ascii_front n us < n → 128 ≤ get_or us (ascii_front n us) 0)
        → 128 ≤ get_or (u ∷ us) (cond t (suc (ascii_front n us)) 0) 0
    go true e h f = f (omega arith)
    go false e h f = ltb-false u 128 e

-- of m units and n more
pub front-some : (m n : ℕ) (us : List ℕ) → ascii_front m us < m → ascii_front (m + n) us ≡ ascii_front m us
unfolding ascii_front
front-some zero n us h = absurd (omega arith)
front-some (suc m) n [] h = rw (suc-add m n)
front-some (suc m) n (u ∷ us) h = rw (suc-add m n) (go (ltb u 128) h (front-some m n us))
  where
    go : (t : Bool) → cond t (suc (ascii_front m us)) 0 < suc m → (ascii_front m us < m → ascii_front (m + n) us ≡ ascii_front m us)
        → cond t (suc (ascii_front (m + n) us)) 0 ≡ cond t (suc (ascii_front m us)) 0
    go true h f = ap suc (f (omega arith))
    go false h f = refl

pub front-all : (m n : ℕ) (us : List ℕ) → m ≤ ascii_front m us → ascii_front (m + n) us ≡ m + ascii_front n (drop m us)
unfolding ascii_front
front-all zero n us h = rw (zero-add n, zero-add (ascii_front n us))
front-all (suc m) n [] h = absurd (omega arith)
front-all (suc m) n (u ∷ us) h = rw (suc-add m n, suc-add m (ascii_front n (drop m us))) (go (ltb u 128) h (front-all m n us))
  where
    go : (t : Bool) → suc m ≤ cond t (suc (ascii_front m us)) 0 → (m ≤ ascii_front m us → ascii_front (m + n) us ≡ m + ascii_front n (drop m us))
        → cond t (suc (ascii_front (m + n) us)) 0 ≡ suc (m + ascii_front n (drop m us))
    go true h f = ap suc (f (omega arith))
    go false h f = absurd (omega arith)

-- ---- what they are

-- the low bytes of ASCII are itself
pub lows-ascii : (us : List ℕ) → all_ascii us ≡ true → lows us ≡ us
lows-ascii [] e = refl
lows-ascii (u ∷ us) e =
    let p = (and-eq-true_iff (ltb u 128) (all_ascii us)).0 e in
    let m : u % 256 ≡ u = omega (arith, ltb-true u 128 p.0) in
    rw (m, lows-ascii us p.1)

pub lows-take : (k : ℕ) (us : List ℕ) → take k (lows us) ≡ lows (take k us)
lows-take zero us = refl
lows-take (suc k) [] = refl
lows-take (suc k) (u ∷ us) = rw (lows-take k us)

pub lows-length : (us : List ℕ) → length (lows us) ≡ length us
lows-length [] = refl
lows-length (u ∷ us) = ap suc (lows-length us)

-- of eight units
eight-lows : (us : List ℕ) → 8 ≤ length us → lows (take 8 us) ≡ get_or us 0 0 % 256 ∷ get_or us 1 0 % 256 ∷ get_or us 2 0 % 256 ∷ get_or us 3 0 % 256 ∷ get_or us 4 0 % 256 ∷ get_or us 5 0 % 256 ∷ get_or us 6 0 % 256 ∷ get_or us 7 0 % 256 ∷ []
eight-lows [] l = absurd (omega arith)
eight-lows (a ∷ []) l = absurd (omega arith)
eight-lows (a ∷ b ∷ []) l = absurd (omega arith)
eight-lows (a ∷ b ∷ c ∷ []) l = absurd (omega arith)
eight-lows (a ∷ b ∷ c ∷ d ∷ []) l = absurd (omega arith)
eight-lows (a ∷ b ∷ c ∷ d ∷ e ∷ []) l = absurd (omega arith)
eight-lows (a ∷ b ∷ c ∷ d ∷ e ∷ f ∷ []) l = absurd (omega arith)
eight-lows (a ∷ b ∷ c ∷ d ∷ e ∷ f ∷ g ∷ []) l = absurd (omega arith)
eight-lows (a ∷ b ∷ c ∷ d ∷ e ∷ f ∷ g ∷ h ∷ us) l = refl

pub lows-eight : (us : List ℕ) (i : ℕ) {a b c d e f g h : ℕ} → i + 8 ≤ length us → a ≡ get_or us i 0 % 256 → b ≡ get_or us (i + 1) 0 % 256 → c ≡ get_or us (i + 2) 0 % 256 → d ≡ get_or us (i + 3) 0 % 256 → e ≡ get_or us (i + 4) 0 % 256 → f ≡ get_or us (i + 5) 0 % 256 → g ≡ get_or us (i + 6) 0 % 256 → h ≡ get_or us (i + 7) 0 % 256
    → lows (take 8 (drop i us)) ≡ a ∷ b ∷ c ∷ d ∷ e ∷ f ∷ g ∷ h ∷ []
lows-eight us i l p q r s t u v w =
    let e = eight-lows (drop i us) (simp length-drop (omega arith)) in
    rw (p, q, r, s, t, u, v, w) (simp (get_or-drop, add-zero) at e)

pub eight-length : (us : List ℕ) (i : ℕ) → i + 8 ≤ length us → length (lows (take 8 (drop i us))) ≡ 8
eight-length us i h = lows-length (take 8 (drop i us)) ∙ length-take-le 8 (drop i us) (simp length-drop (omega arith))

-- ASCII in front is its own UTF-8, and what is behind it is a text where the whole is
pub ascii_front_lem : (k : ℕ) (us : List ℕ) → all_ascii (take k us) ≡ true → is_well (utf16 us) ≡ true
    → (is_well (utf16 (drop k us)) ≡ true) × (utf8 (scalars (utf16 us)) ≡ take k us ++ utf8 (scalars (utf16 (drop k us))))
ascii_front_lem zero us a w = (w, refl)
ascii_front_lem (suc k) [] a w = (w, refl)
ascii_front_lem (suc k) (u ∷ us) a w =
    let p = (and-eq-true_iff (ltb u 128) (all_ascii (take k us))).0 a in
    let h : u < 128 = ltb-true u 128 p.0 in
    let e = utf16-single u us (inl (omega arith)) in
    let f : is_well (utf16 us) ≡ true = sym (is_well-more u (utf16 us)) ∙ ap is_well (sym e) ∙ w in
    let r = ascii_front_lem k us p.1 f in
    (r.0, rw (e, scalars-more u (utf16 us) f, utf8_1 h, r.1))
