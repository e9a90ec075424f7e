-- The loops that measure and write the base of a name: what a turn passes, and what is written after it. Assumes nothing.
use mathlib.Core.Path.{◌≡◌, refl, sym, ap, ◌∙◌}
use mathlib.Core.Bool.{Bool, true, false}
use mathlib.Core.List.{List, [], ◌∷◌, ◌++◌, append-nil}
use Prim.Native.Nat.{ℕ, ◌+◌, ◌-◌, ◌≤◌, ◌<◌}
use native.Mathlib.Nat.{add-zero}
use native.Mathlib.Omega.{arith}
use borrow.Author.Tests.{lt-ltb, le-ltb, ne_eqb}
use lib.Dec.{eqb}
use lib.ListN.{length, take, drop, get_or, length-append, length-take, length-drop, take-append-drop, drop_of_length-le}
use lib.Seq.{take_at, drop_at, take-add, take_all, take-take, drop-drop, length-take-le, get_or-drop}
use Rattle.base.specs.NumberLaws.{Bytes}
use Rattle.base.specs.Output.{over, Wrote}
use Rattle.base.specs.OutputLaws.{wrote_none, wrote_as, wrote-rest, wrote-room, wrote-length, wrote-taken}
use Rattle.text.specs.Utf16.{Decoded, is_well, scalars, more, utf16}
use Rattle.text.specs.Utf8.{utf8_one, utf8}
use Rattle.text.specs.Name.{decoded, base}
use Rattle.text.specs.Units.{units_of, scalar_of}
use Rattle.text.specs.UnitsLaws.{Words, units_of-words, scalar-single, scalar-pair, scalar-stray, scalar-lone, words-drop, decoded-units, scalar-some, scalar-ill, some-fits, utf16-none, is_well-more, scalars-more}
use Rattle.text.specs.Affix.{all_ascii}
use Rattle.text.specs.Utf16Cases.{Cases, none, single, pair, stray, lone, cases}
use Rattle.text.specs.UnitLengthLaws.{units-least}
use Rattle.text.specs.FrontLaws.{front-most, front-ascii, front-next, lows-take, lows-ascii, ascii_front_lem}
use Rattle.text.specs.PlainLaws.{beyond}
use Rattle.text.specs.Front.{ascii_front, beyond_front, end_of, turn_units, lows, bytes_from, well_from, Written, Passed, Held, Turned}
use Rattle.text.specs.declared.utf16.Scalar.{Scalar}
use Rattle.std.specs.Prelude.{Option, Some, None}

-- a turn at i passes k units, which are the scalar value c
pub record Turn (us : List ℕ) (i k c : ℕ) : Type 0 where
  pub moves : 0 < k
  pub within : i + k ≤ length us
  pub small : c < 0x110000
  pub well : well_from us (i + k) ≡ true
  pub is : bytes_from us i ≡ utf8_one c ++ bytes_from us (i + k)

module _ (us : List ℕ) (i : ℕ) (w : Words us) (ok : well_from us i ≡ true) where
  turn : (k c : ℕ) → k ≤ length (drop i us) → 0 < k → c < 0x110000 → utf16 (drop i us) ≡ more c (utf16 (drop k (drop i us))) → Turn us i k c
  turn k c l z h e =
      let same : utf16 (drop i us) ≡ more c (utf16 (drop (i + k) us)) = e ∙ rw (drop-drop k i us) in
      let ok₂ : well_from us (i + k) ≡ true = sym (is_well-more c (utf16 (drop (i + k) us))) ∙ ap is_well (sym same) ∙ ok in
      record {
        moves = z;
        within = omega (arith, length-drop i us);
        small = h;
        well = ok₂;
        is = ap (λ (d : Decoded). utf8 (scalars d)) same ∙ ap utf8 (scalars-more c (utf16 (drop (i + k) us)) ok₂);
      }

  pub turn_some : {c : Scalar} → scalar_of (drop i us) ≡ Some c → Turn us i c.units c.value
  turn_some {c} e =
      let f = some-fits (drop i us) (words-drop i us w) e in
      turn c.units c.value f.1 f.0 f.3 (scalar-some (drop i us) e)

-- the turn at the scalar value r that the code reads at i
module _ (wide : Bool) (part : List ℕ) (b : Bytes part) (i : ℕ) (ok : well_from (units_of wide part) i ≡ true) where
  words : Words (units_of wide part)
  words = units_of-words wide part b

  pub read_some : {r : Option Scalar} {c : Scalar} → r ≡ scalar_of (drop i (units_of wide part)) → r ≡ Some c → Turn (units_of wide part) i c.units c.value
  read_some e q = turn_some (units_of wide part) i words ok (sym e ∙ q)

-- no turn meets a surrogate with no partner
pub turn-ill : (us : List ℕ) (i : ℕ) → well_from us i ≡ true → i < length us → scalar_of (drop i us) ≡ None → ⊥
turn-ill us i ok h e =
    let l : 0 < length (drop i us) = omega (arith, length-drop i us) in
    let f = scalar-ill (drop i us) l e in
    let z : ◌≡◌ {A = ℕ} 0 1 = cc in
    omega arith

-- before the first turn, and after the last
pub first-well : (wide : Bool) (part : List ℕ) → Bytes part → is_well (decoded wide part) ≡ true → well_from (units_of wide part) 0 ≡ true
first-well wide part b ok = ap is_well (sym (decoded-units wide part b)) ∙ ok

pub first-bytes : (wide : Bool) (part : List ℕ) → Bytes part → bytes_from (units_of wide part) 0 ≡ utf8 (base wide part)
first-bytes wide part b = ap (λ (d : Decoded). utf8 (scalars d)) (sym (decoded-units wide part b))

pub last-bytes : (us : List ℕ) (i : ℕ) → length us ≤ i → bytes_from us i ≡ []
last-bytes us i h = rw (drop_of_length-le us h, utf16-none)

-- ---- what is written

pub written_none : {s x y : List ℕ} → x ≡ y → Written s x s y 0
written_none {s} {x} {y} e = record { wrote = wrote_none s; left = e }

pub written_all : {s x o rest : List ℕ} {n : ℕ} → Written s x o rest n → rest ≡ [] → Wrote s x o n
written_all {s} {x} {o} {rest} {n} w e = wrote_as w.wrote (sym (append-nil (take n x)) ∙ rw (← e, ← w.left) (take-append-drop n x))

-- the next bytes y stand in front of what is still to be written
module _ {s x o r : List ℕ} (y z : List ℕ) {n : ℕ} (w : Written s x o r n) (e : r ≡ y ++ z) where
  -- there is room for y where there is for all of x
  pub next-fits : length x ≤ length s → length y ≤ length (take (length o - n) (drop n o))
  next-fits h = wrote-room w.wrote (length y) (omega (arith, w.wrote.size, length-take n x, ap length (w.left ∙ e), length-append y z, length-drop n x))

  -- once y is written too, the bytes behind it are what is left
  pub next-written : {p : List ℕ} {m : ℕ} → Wrote (take (length o - n) (drop n o)) y p m
      → Written s x (take n o ++ (p ++ drop (length o - n) (drop n o))) z (n + m)
  next-written {p} {m} v =
      let l : length y ≡ m = sym v.size in
      record {
        wrote = wrote_as (wrote-rest w.wrote v) (sym (take-add n m x ∙ rw (w.left, e, take_at y z m l)));
        left = sym (drop-drop m n x) ∙ rw (w.left, e, drop_at y z m l);
      }

-- so for the bytes of a turn: there is room for them, and once they are written those of the units behind it are left
module _ {s x o us : List ℕ} {n i k c : ℕ} (w : Written s x o (bytes_from us i) n) (t : Turn us i k c) where
  pub turn-fits : length x ≤ length s → length (utf8_one c) ≤ length (take (length o - n) (drop n o))
  turn-fits = next-fits _ _ w t.is

  pub written-turn : {p : List ℕ} {m : ℕ} → Wrote (take (length o - n) (drop n o)) (utf8_one c) p m
      → Written s x (take n o ++ (p ++ drop (length o - n) (drop n o))) (bytes_from us (i + k)) (n + m)
  written-turn = next-written _ _ w t.is

-- ---- the units beyond ASCII

-- none is where the first is ASCII, and one more than behind it where it is not
beyond_no : (us : List ℕ) (u : ℕ) → u < 128 → beyond_front (u ∷ us) ≡ 0
unfolding beyond_front
beyond_no us u h = rw (lt-ltb u 128 h)

beyond-yes : (us : List ℕ) (u : ℕ) → 128 ≤ u → beyond_front (u ∷ us) ≡ 1 + beyond_front us
unfolding beyond_front
beyond-yes us u h = rw (le-ltb u 128 h) (omega arith)

-- so by the first scalar value
abbrev Beyond : Option Scalar → List ℕ → Type 0
Beyond (Some c) us = (c.value < 128 → beyond_front us ≡ 0) × (128 ≤ c.value → beyond_front us ≡ c.units + beyond_front (drop c.units us))
Beyond None us = Unit {0}

beyond-first : {us : List ℕ} → Cases us → Beyond (scalar_of us) us
unfolding scalar_of
beyond-first none = tt
beyond-first (single {u} {us} p r) = rw (scalar-single u us p) (beyond_no us u, beyond-yes us u)
beyond-first (pair {u} {v} {us} p q r) =
    rw (scalar-pair u v us p q, beyond-yes (v ∷ us) u (omega arith), beyond-yes us v (omega arith)) (λ h. absurd (omega arith), λ _. omega arith)
beyond-first (stray {u} {us} p) = rw (scalar-stray u us p) tt
beyond-first (lone {u} {us} p q) = rw (scalar-lone u us p q) tt

-- where a walk that comes to i ends
module _ (us : List ℕ) (i : ℕ) {c : Scalar} (e : scalar_of (drop i us) ≡ Some c) where
  first-beyond : Beyond (Some c) (drop i us)
  first-beyond = rw e at (beyond-first (cases (drop i us)))

  pub end_here : c.value < 128 → end_of false us i ≡ i
  end_here h = rw (first-beyond.0 h) (omega arith)

  pub end_next : (all : Bool) → (all ≡ false → 128 ≤ c.value) → end_of all us i ≡ end_of all us (i + c.units)
  end_next true h = refl
  end_next false h = rw (first-beyond.1 (h refl), drop-drop c.units i us) (omega arith)

-- behind the last unit; of those beyond ASCII no place is too far
pub end_last-beyond : (us : List ℕ) (i : ℕ) → length us ≤ i → end_of false us i ≡ i
unfolding beyond_front
end_last-beyond us i h = rw (drop_of_length-le us h) (omega arith)

pub end_last : (all : Bool) (us : List ℕ) (i : ℕ) → i ≤ length us → length us ≤ i → end_of all us i ≡ i
end_last true us i l h = omega arith
end_last false us i l h = end_last-beyond us i h

-- the walk moves where it starts beyond ASCII
beyond-moves : (us : List ℕ) → 0 < length us → 128 ≤ get_or us 0 0 → 0 < beyond_front us
beyond-moves [] l h = absurd (omega arith)
beyond-moves (u ∷ us) l h = omega (arith, beyond-yes us u h)

-- ---- where more may have been written behind that

-- nothing was
pub held-written : {s x o rest : List ℕ} {n : ℕ} → Written s x o rest n → Held s x o rest n
held-written {s} {x} {o} {rest} {n} w = record {
  size = wrote-length w.wrote;
  fits = omega (arith, w.wrote.size, length-take n x);
  front = wrote-taken w.wrote;
  left = w.left;
  beyond = ap (drop (length x)) w.wrote.is ∙ beyond s (take n x) (length x) (omega (arith, length-take n x));
}

pub held-wrote : {s x o : List ℕ} {n : ℕ} → Wrote s x o n → Held s x o [] n
held-wrote {s} {x} {o} {n} w =
    let h : length x ≤ n = omega (arith, w.size) in
    held-written (record { wrote = wrote_as w (sym (take_all n x h)); left = drop_of_length-le x h })

-- nor was anything where all units were passed
pub held-passed : {us s o : List ℕ} {i j n : ℕ} → Passed true us s o i j n → Held s (bytes_from us i) o [] n
held-passed {us} {s} {o} {i} {j} {n} w = held-wrote (written_all w.written (last-bytes us j (omega (arith, w.is))))

pub held_none : {s x y : List ℕ} → x ≡ y → Held s x s y 0
held_none {s} {x} {y} e = held-written (written_none e)

-- all of it is written
pub held_all : {s x o : List ℕ} {n : ℕ} → Held s x o [] n → length x ≤ length s → Wrote s x o n
unfolding over
held_all {s} {x} {o} {n} w h =
    let e : n ≡ length x = omega (arith, w.fits, length-drop n x, ap length w.left) in
    record {
      size = e;
      fits = omega (arith, w.fits);
      is = sym (take-append-drop n o) ∙ rw (w.front, take_all n x (omega arith)) (ap (λ (l : List ℕ). x ++ l) (ap (λ (k : ℕ). drop k o) e ∙ w.beyond));
    }

-- there is room for the rest, and it is written to what is left of the buffer
module _ {s x o r : List ℕ} {n : ℕ} (w : Held s x o r n) (h : length x ≤ length s) where
  pub held-room : length r ≤ length (take (length o - n) (drop n o))
  held-room = simp (length-take, length-drop) (omega (arith, w.size, w.fits, length-drop n x, ap length w.left))

  pub held-rest : {p t : List ℕ} {m : ℕ} → Held (take (length o - n) (drop n o)) r p t m → Held s x (take n o ++ (p ++ drop (length o - n) (drop n o))) t (n + m)
  held-rest {p} {t} {m} v =
      let lo : length o ≡ length s = w.size in
      let lr : length r ≡ length x - n = sym (ap length w.left) ∙ length-drop n x in
      let q : take (length o - n) (drop n o) ≡ drop n o = take_all (length o - n) (drop n o) (simp length-drop (omega arith)) in
      let short : length (drop n o) ≤ length o - n = simp length-drop (omega arith) in
      let z : drop (length o - n) (drop n o) ≡ [] = drop_of_length-le (drop n o) short in
      let a : length (take n o) ≡ n = length-take-le n o (omega (arith, w.fits)) in
      let lp : length p ≡ length o - n = v.size ∙ rw (q, length-drop n o) in
      let b : length x ≡ n + length r = omega (arith, w.fits) in
      rw (z, append-nil p)
      record {
        size = rw (length-append (take n o) p, a) (omega (arith, w.fits));
        fits = omega (arith, v.fits, w.fits);
        front = take-add n m (take n o ++ p) ∙ rw (take_at (take n o) p n a, drop_at (take n o) p n a, w.front, v.front, ← w.left) (sym (take-add n m x));
        left = sym (drop-drop m n x) ∙ rw w.left v.left;
        beyond =
            rw (b, ← drop-drop (length r) n (take n o ++ p), drop_at (take n o) p n a, v.beyond, q, drop-drop (length r) n o, ← b) w.beyond;
      }

-- eight units take at least eight bytes
pub many : (us : List ℕ) (i : ℕ) → Words us → well_from us i ≡ true → i + 8 ≤ length us → 8 ≤ length (bytes_from us i)
many us i w ok h = omega (arith, length-drop i us, units-least (drop i us) (words-drop i us w) ok)

-- the low bytes of eight units were written, k of which are ASCII before one that is not
module _ (us : List ℕ) (i k : ℕ) (w : Words us) (ok : well_from us i ≡ true) (h : i + 8 ≤ length us) (e : k ≡ ascii_front 8 (drop i us)) where
  few : k ≤ 8
  few = omega (arith, front-most 8 (drop i us))

  ascii : all_ascii (take k (drop i us)) ≡ true
  ascii = rw e (front-ascii 8 (drop i us))

  eight : 8 ≤ length (drop i us)
  eight = simp length-drop (omega arith)

  taken : length (take k (drop i us)) ≡ k
  taken = length-take-le k (drop i us) (omega (arith, few, eight))

  pub front-within : i + k ≤ length us
  front-within = omega (arith, few)

  pub front-well : well_from us (i + k) ≡ true
  front-well = rw (← drop-drop k i us) (ascii_front_lem k (drop i us) ascii ok).0

  front-is : bytes_from us i ≡ take k (drop i us) ++ bytes_from us (i + k)
  front-is = rw (← drop-drop k i us) (ascii_front_lem k (drop i us) ascii ok).1

  held_low : {q p : List ℕ} → Wrote q (lows (take 8 (drop i us))) p 8 → Held q (bytes_from us i) p (bytes_from us (i + k)) k
  held_low {q} {p} v =
      let l = drop i us in
      let n : length (lows (take 8 l)) ≡ 8 = sym v.size in
      let low : take k (take 8 p) ≡ take k l =
      ap (take k) (wrote-taken v) ∙ lows-take k (take 8 l) ∙ ap lows (take-take k 8 l few) ∙ lows-ascii (take k l) ascii in
      record {
        size = wrote-length v;
        fits = omega (arith, few, many us i w ok h);
        front = sym (take-take k 8 p few) ∙ low ∙ rw front-is (sym (take_at (take k l) (bytes_from us (i + k)) k taken));
        left = rw front-is (drop_at (take k l) (bytes_from us (i + k)) k taken);
        beyond = ap (drop (length (bytes_from us i))) v.is ∙ beyond q (lows (take 8 l)) (length (bytes_from us i)) (omega (arith, many us i w ok h));
      }

  -- a unit beyond ASCII is next, where they are fewer
  next-beyond : (k ≡ 8 → ⊥) → 0 < beyond_front (drop (i + k) us)
  next-beyond z =
      let less : ascii_front 8 (drop i us) < 8 = omega (arith, few) in
      let b : 128 ≤ get_or us (i + k) 0 = rw (get_or-drop i us (ascii_front 8 (drop i us)) 0, ← e) at (front-next 8 (drop i us) eight less) in
      let l : 0 < length (drop (i + k) us) = simp length-drop (omega (arith, few)) in
      beyond-moves (drop (i + k) us) l (rw (get_or-drop (i + k) us 0 0, add-zero (i + k)) b)

  pub front_fits : {q p : List ℕ} → Wrote q (lows (take 8 (drop i us))) p 8 → k ≤ length p
  front_fits v = omega (arith, few, v.fits, wrote-length v)

  -- a turn where they are eight, and one where they are fewer and what is beyond ASCII was written after them
  pub turn-eight : {q p : List ℕ} → Wrote q (lows (take 8 (drop i us))) p 8 → k ≡ 8 → Turned us q p i (i + 8) 8
  unfolding turn_units
  turn-eight v z =
      let f : ascii_front 8 (drop i us) ≡ 8 = sym e ∙ z in
      record { is = rw f; within = h; moves = omega arith; well = rw z at front-well; held = rw z at (held_low v) }

  module _ {q p : List ℕ} (v : Wrote q (lows (take 8 (drop i us))) p 8) (r : length (bytes_from us i) ≤ length q) where
    pub beyond-room : length (bytes_from us (i + k)) ≤ length (take (length p - k) (drop k p))
    beyond-room = held-room (held_low v) r

    pub turn-fewer : (k ≡ 8 → ⊥) → {t : List ℕ} {j m : ℕ} → Passed false us (take (length p - k) (drop k p)) t (i + k) j m
        → Turned us q (take k p ++ (t ++ drop (length p - k) (drop k p))) i j (k + m)
    unfolding turn_units
    turn-fewer z {t} {j} {m} d =
        let f : eqb (ascii_front 8 (drop i us)) 8 ≡ false = ne_eqb (ascii_front 8 (drop i us)) 8 (λ y. z (e ∙ y)) in
        record {
          is = d.is ∙ rw (f, ← e, drop-drop k i us) (omega arith);
          within = d.within;
          moves = omega (arith, d.is, next-beyond z);
          well = d.well;
          held = held-rest (held_low v) r (held-written d.written);
        }
