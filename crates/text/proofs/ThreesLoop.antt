-- Runs of units that take three bytes each: the bytes of two as one word, what a turn of two passes, and what is written after it. Assumes nothing.
use mathlib.Core.Path.{◌≡◌, refl, sym, ap, ◌∙◌}
use mathlib.Core.Bool.{true, false}
use mathlib.Core.List.{List, [], ◌∷◌, ◌++◌, append_assoc}
use Prim.Native.Nat.{ℕ, zero, suc, ◌+◌, ◌-◌, ◌*◌, ◌/◌, ◌%◌, ◌≤◌, ◌<◌}
use native.Mathlib.Omega.{arith}
use lib.ListN.{length, take, drop, get_or, length-drop, take-append-drop}
use lib.Dec.{leb}
use lib.Seq.{drop-cons}
use Rattle.std.specs.Prelude.{◌&&◌}
use Rattle.std.specs.Int.{w64, to_le_bytes}
use Rattle.std.proofs.lemmas.Nat.{le_bytes_8}
use Rattle.std.proofs.Math.Bool.{and-eq-true_iff}
use Rattle.std.proofs.lemmas.Bool.{leb-true}
use Rattle.base.specs.Never.{never}
use Rattle.base.specs.Number.{le}
use Rattle.base.specs.Output.{Wrote}
use Rattle.text.specs.Utf8.{utf8_one}
use Rattle.text.specs.Utf8Laws.{utf8_3}
use Rattle.text.specs.Units.{scalar_of}
use Rattle.text.specs.UnitsLaws.{Words, scalar-single}
use Rattle.text.specs.UnitLength.{is_single}
use Rattle.text.specs.UnitLengthLaws.{is_single_lem}
use Rattle.text.specs.Front.{is_three, starts_three, three_front, bytes_from, well_from, end_of, Written, Passed, Begun}
use Rattle.text.proofs.NameLoop.{Turn, turn_some, end_next, next-fits, next-written}
use Rattle.std.specs.Prelude.{Some}

-- ---- a word

-- the bytes of a unit as a number
pub word-three : (u : ℕ) → 0x800 ≤ u → u < 0x10000 → le (utf8_one u) ≡ 224 + u / 4096 + 256 * (128 + u / 64 % 64) + 65536 * (128 + u % 64)
word-three u l h = rw (utf8_3 l h) (omega arith)

-- eight bytes of which the last two are 0
six : (a b c d e f : ℕ) → a < 256 → b < 256 → c < 256 → d < 256 → e < 256 → f < 256 → (i : ℕ) → get_or (a ∷ b ∷ c ∷ d ∷ e ∷ f ∷ 0 ∷ 0 ∷ []) i 0 < 256
six a b c d e f p q r s t u zero = p
six a b c d e f p q r s t u (suc zero) = q
six a b c d e f p q r s t u (suc (suc zero)) = r
six a b c d e f p q r s t u (suc (suc (suc zero))) = s
six a b c d e f p q r s t u (suc (suc (suc (suc zero)))) = t
six a b c d e f p q r s t u (suc (suc (suc (suc (suc zero))))) = u
six a b c d e f p q r s t u (suc (suc (suc (suc (suc (suc zero)))))) = omega arith
six a b c d e f p q r s t u (suc (suc (suc (suc (suc (suc (suc zero))))))) = omega arith
six a b c d e f p q r s t u (suc (suc (suc (suc (suc (suc (suc (suc i)))))))) = omega arith

-- and those of two are the low six bytes of one word
pub pair-bytes : (u v n : ℕ) → 0x800 ≤ u → u < 0x10000 → 0x800 ≤ v → v < 0x10000 → n ≡ le (utf8_one u) + le (utf8_one v) * 16777216
    → take 6 (to_le_bytes w64 n) ≡ utf8_one u ++ utf8_one v
pair-bytes u v n lu hu lv hv e =
    rw (utf8_3 lu hu, utf8_3 lv hv)
    (ap (take 6)
    (le_bytes_8
    ((224 + u / 4096) ∷ (128 + u / 64 % 64) ∷ (128 + u % 64) ∷ (224 + v / 4096) ∷ (128 + v / 64 % 64) ∷ (128 + v % 64) ∷ 0 ∷ 0 ∷ [])
    n
    refl
    (six _ _ _ _ _ _ (omega arith) (omega arith) (omega arith) (omega arith) (omega arith) (omega arith))
    (e ∙ rw (word-three u lu hu, word-three v lv hv) (omega arith))))

-- ---- a turn of two

-- two of three bytes come first only where there are two
starts_long : (us : List ℕ) → starts_three us ≡ true → 2 ≤ length us
unfolding starts_three
starts_long [] e = never (cc)
starts_long (u ∷ []) e = never (cc)
starts_long (u ∷ v ∷ us) e = omega arith

pub starts_short : (us : List ℕ) → length us < 2 → starts_three us ≡ false
unfolding starts_three
starts_short [] h = refl
starts_short (u ∷ []) h = refl
starts_short (u ∷ v ∷ us) h = absurd (omega arith)

-- the units from a place on by the first two
pub two_units : (us : List ℕ) (i : ℕ) → i + 2 ≤ length us → drop i us ≡ get_or us i 0 ∷ get_or us (i + 1) 0 ∷ drop (i + 2) us
two_units us i h =
    let one : suc i ≡ i + 1 = omega arith in
    let two : suc (i + 1) ≡ i + 2 = omega arith in
    drop-cons us i 0 (omega arith) ∙ rw one (ap (λ (l : List ℕ). get_or us i 0 ∷ l) (drop-cons us (i + 1) 0 (omega arith) ∙ rw two refl))

pub starts_two : (us : List ℕ) (i : ℕ) → i + 2 ≤ length us → starts_three (drop i us) ≡ (is_three (get_or us i 0) && is_three (get_or us (i + 1) 0))
unfolding starts_three
starts_two us i h = rw (two_units us i h)

-- no more are passed where two don't come first
pub front_end : (us : List ℕ) → starts_three us ≡ false → three_front us ≡ 0
unfolding starts_three three_front
front_end [] e = refl
front_end (u ∷ []) e = refl
front_end (u ∷ v ∷ us) e = rw e

front_two : (u v : ℕ) (us : List ℕ) → starts_three (u ∷ v ∷ us) ≡ true → three_front (u ∷ v ∷ us) ≡ 2 + three_front us
unfolding starts_three three_front
front_two u v us e = rw e

-- a turn at i passes two units, u and v
pub record Pair (us : List ℕ) (i : ℕ) : Type 0 where
  pub within : i + 2 ≤ length us
  pub least : 0x800 ≤ get_or us i 0
  pub most : get_or us i 0 < 0x10000
  pub least₂ : 0x800 ≤ get_or us (i + 1) 0
  pub most₂ : get_or us (i + 1) 0 < 0x10000
  pub well : well_from us (i + 2) ≡ true
  pub is : bytes_from us i ≡ (utf8_one (get_or us i 0) ++ utf8_one (get_or us (i + 1) 0)) ++ bytes_from us (i + 2)
  pub beyond : end_of false us i ≡ end_of false us (i + 2)
  pub passed : three_front (drop i us) ≡ 2 + three_front (drop (i + 2) us)

-- a unit of three bytes
three_is : (u : ℕ) → is_three u ≡ true → (0x800 ≤ u) × (is_single u ≡ true)
three_is u e = let (l, s) = (and-eq-true_iff (leb 0x800 u) (is_single u)).0 e in (leb-true 0x800 u l, s)

-- it is passed by itself
one_scalar : (us : List ℕ) (i : ℕ) → i < length us → is_three (get_or us i 0) ≡ true → scalar_of (drop i us) ≡ Some (record { value = get_or us i 0; units = 1 })
one_scalar us i h e = rw (drop-cons us i 0 h) (scalar-single _ _ (is_single_lem _ (three_is (get_or us i 0) e).1))

module _ (us : List ℕ) (i : ℕ) (w : Words us) (ok : well_from us i ≡ true) (e : starts_three (drop i us) ≡ true) where
  there : i + 2 ≤ length us
  there = omega (arith, starts_long (drop i us) e, length-drop i us)

  both : (is_three (get_or us i 0) ≡ true) × (is_three (get_or us (i + 1) 0) ≡ true)
  both = (and-eq-true_iff (is_three (get_or us i 0)) (is_three (get_or us (i + 1) 0))).0 (sym (starts_two us i there) ∙ e)

  first_turn : Turn us i 1 (get_or us i 0)
  first_turn = turn_some us i w ok (one_scalar us i (omega (arith, there)) both.0)

  second_turn : Turn us (i + 1) 1 (get_or us (i + 1) 0)
  second_turn = turn_some us (i + 1) w first_turn.well (one_scalar us (i + 1) (omega (arith, there)) both.1)

  pub pair : Pair us i
  pair =
      let z : i + 1 + 1 ≡ i + 2 = omega arith in
      let l = three_is (get_or us i 0) both.0 in
      let m = three_is (get_or us (i + 1) 0) both.1 in
      let d = two_units us i there in
      record {
        within = there;
        least = l.0;
        most = w i;
        least₂ = m.0;
        most₂ = w (i + 1);
        well = rw z at second_turn.well;
        is =
            first_turn.is ∙ rw (second_turn.is, z)
            (sym (append_assoc (utf8_one (get_or us i 0)) (utf8_one (get_or us (i + 1) 0)) (bytes_from us (i + 2))));
        beyond =
            end_next us i (one_scalar us i (omega (arith, there)) both.0) false (λ _. omega (arith, l.0))
            ∙ rw z at (end_next us (i + 1) (one_scalar us (i + 1) (omega (arith, there)) both.1) false (λ _. omega (arith, m.0)));
        passed = rw d (front_two _ _ _ (rw d at e));
      }

two_size : {us : List ℕ} {i : ℕ} → Pair us i → length (utf8_one (get_or us i 0) ++ utf8_one (get_or us (i + 1) 0)) ≡ 6
two_size t = rw (utf8_3 t.least t.most, utf8_3 t.least₂ t.most₂) refl

-- there is room for the six bytes of two, and once they are written those of the units behind them are left
module _ {us : List ℕ} {i : ℕ} (t : Pair us i) {s x o : List ℕ} {n : ℕ} (r : Written s x o (bytes_from us i) n) where
  abbrev two : List ℕ
  two = utf8_one (get_or us i 0) ++ utf8_one (get_or us (i + 1) 0)

  pub two_fit : length x ≤ length s → 6 ≤ length (take (length o - n) (drop n o))
  two_fit h = rw (two_size t) at (next-fits two _ r t.is h)

  pub two_written : {p : List ℕ} → Wrote (take (length o - n) (drop n o)) two p 6
      → Written s x (take n o ++ (p ++ drop (length o - n) (drop n o))) (bytes_from us (i + 2)) (n + 6)
  two_written = next-written _ _ r t.is

-- ---- what is written behind them

-- the rest beyond ASCII is passed and written behind those that take three bytes: so all beyond ASCII is
module _ {us s o : List ℕ} {i j n : ℕ} (b : Begun us s o i j n) where
  pub begun_passed : {p : List ℕ} {k m : ℕ} → Passed false us (take (length o - n) (drop n o)) p j k m
      → Passed false us s (take n o ++ (p ++ drop (length o - n) (drop n o))) i k (n + m)
  begun_passed {p} {k} {m} v =
      let e : bytes_from us j ≡ take m (bytes_from us j) ++ bytes_from us k = rw (← v.written.left) (sym (take-append-drop m (bytes_from us j))) in
      record { is = v.is ∙ sym b.beyond; within = v.within; well = v.well; written = next-written _ _ b.written e v.written.wrote }
