-- Laws of characters passed at once. Assumes nothing.
use Rattle.std.specs.Prelude.{◌≡◌, refl, Bool, true, false, cond, ◌&&◌, List, ℕ, zero, suc, ◌+◌, ◌-◌, ◌≤◌, ◌<◌, ltb, eqb, length, get_or, take, drop, Option, None, Some}
use Rattle.std.proofs.Common.{sym, ◌∙◌, add-one, arith, lt-ltb, le-ltb, ltb-true, eqb-true, length-append, length-drop, get_or-drop}
use Rattle.std.proofs.Math.Path.{ap}
use Rattle.std.proofs.Math.Bool.{and-true, and_assoc}
use Rattle.text.specs.Utf16.{Decoded, well, ill, more, encode_one, encode16}
use Rattle.text.specs.Utf8.{utf8_one, from_utf8}
use Rattle.text.specs.Utf8Laws.{utf8_1, utf8_2, utf8_3, utf8_4, Sized, one, two, three, four, sized}
use Rattle.decode.specs.declared.chars.Char.{Char}
use Rattle.decode.specs.declared.measure.Measured.{Measured}
use Rattle.decode.specs.ReadLaws.{both}
use Rattle.decode.specs.Chars.{Range, within, tail, is_four, joined, char_of}
use Rattle.decode.specs.TableLaws.{Second}
use Rattle.decode.proofs.TableLaws.{inside, within-is, second-true, common_is, common_three, char_of-at, by_one, by_three, by-four}
use Rattle.decode.proofs.CharLaws.{char-starts}
use Rattle.decode.specs.Measure.{measured, a_text}
use Rattle.decode.specs.TurnLaws.{Turn}
use Rattle.decode.proofs.TurnLaws.{turn, turn-ill, one_unit, two-units, last_turn}
use Rattle.decode.specs.Latin.{every, ascii}
use Rattle.decode.proofs.LatinLaws.{every-next, every-four}
use Rattle.decode.specs.Step.{common_at, is_plane, plane_at, added, Passed}

-- ---- measures of texts that start with some units

pub added_none : (m : Option Measured) → m ≡ added 0 true m
unfolding added
added_none (Some m) = let e : 0 + m.units ≡ m.units = omega arith in rw e
added_none None = refl

pub added_twice : (u v : ℕ) (low more : Bool) (m : Option Measured) → added u low (added v more m) ≡ added (u + v) (low && more) m
unfolding added
added_twice u v low more (Some m) =
    let e : u + (v + m.units) ≡ u + v + m.units = omega arith in
    rw (e, and_assoc low more m.latin)
added_twice u v low more None = refl

-- the units of one scalar value before a text
pub added_more : (c : ℕ) (d : Decoded) → measured (more c d) ≡ added (length (encode_one c)) (ltb c 0x100) (measured d)
unfolding added measured encode16
added_more c (well t) = rw (length-append (encode_one c) (encode16 t))
added_more c ill = refl

-- and before what is no text, or nothing
pub added-ill : (u : ℕ) (low : Bool) {m : Option Measured} → m ≡ None → added u low m ≡ None
unfolding added
added-ill u low e = rw e

pub added-last : (s : List ℕ) (at u : ℕ) (low : Bool) → length s ≤ at → added u low (measured (from_utf8 (drop at s))) ≡ a_text u low
unfolding added measured encode16
added-last s at u low h =
    let e : u + 0 ≡ u = omega arith in
    rw (last_turn s at h, e, and-true low)

-- ---- bytes passed

pub passed_then : {s : List ℕ} {at k u j v : ℕ} {low more : Bool} → Passed s at k u low → Passed s (at + k) j v more → Passed s at (k + j) (u + v) (low && more)
passed_then {s} {at} {k} {u} {j} {v} {low} {more} p q =
    let e : at + k + j ≡ at + (k + j) = omega arith in
    record {
      some = omega arith;
      within = omega arith;
      few = omega arith;
      is = p.is ∙ ap (added u low) q.is ∙ rw e (added_twice u v low more _);
    }

turn-passed : {s : List ℕ} {at c k : ℕ} → Turn s at c k → Passed s at k (length (encode_one c)) (ltb c 0x100)
turn-passed {s} {at} {c} {k} t = record {
  some = t.some;
  within = t.within;
  few = t.units;
  is = ap measured t.is ∙ added_more c (from_utf8 (drop (at + k) s));
}

-- the units of a scalar value by how many bytes it has
sized-units : (c k : ℕ) → length (utf8_one c) ≡ k → Sized c → length (encode_one c) ≡ cond (eqb k 4) 2 1
sized-units c k e (one h) = rw (← e, utf8_1 h, one_unit c (omega arith))
sized-units c k e (two l h) = rw (← e, utf8_2 l h, one_unit c (omega arith))
sized-units c k e (three l h) = rw (← e, utf8_3 l h, one_unit c (omega arith))
sized-units c k e (four l) = rw (← e, utf8_4 l, two-units c l)

-- a character of planes 1 to 3 is one of four bytes
plane_is : (a b c d : ℕ) → is_plane a b c d ≡ true → (a ≡ 0xF0) × Range 0x90 0xBF b × Range 0x80 0xBF c × Range 0x80 0xBF d
unfolding is_plane
plane_is a b c d e =
    let p = both (eqb a 0xF0 && within 0x90 0xBF b && tail c) (tail d) e in
    let q = both (eqb a 0xF0 && within 0x90 0xBF b) (tail c) p.0 in
    let r = both (eqb a 0xF0) (within 0x90 0xBF b) q.0 in
    (eqb-true a 0xF0 r.0, within-is _ _ b r.1, within-is _ _ c q.1, within-is _ _ d p.1)

plane_four : (a b c d : ℕ) → is_plane a b c d ≡ true → is_four a b c d ≡ true
unfolding is_four
plane_four a b c d e =
    let h = plane_is a b c d e in
    let k : Second a b = record {
      low = omega arith;
      high = omega arith;
      after_e0 = λ i. omega arith;
      after_ed = λ i. omega arith;
      after_f0 = λ i. omega arith;
      after_f4 = λ i. omega arith;
    } in
    rw (
      inside 0xF0 0xF4 a (omega arith) (omega arith),
      second-true a b k,
      inside 0x80 0xBF c (omega arith) (omega arith),
      inside 0x80 0xBF d (omega arith) (omega arith),
    )

module _ (s : List ℕ) (at : ℕ) where
  -- a character whose units are known
  char-passed : at < length s → {c : Char} → char_of (drop at s) ≡ Some c → (u : ℕ) (low : Bool) → length (encode_one c.value) ≡ u → ltb c.value 0x100 ≡ low → Passed s at c.size u low
  char-passed h {c} e u low eu el = let p = turn-passed (turn s at h e) in rw (eu, el) at p

  letter-passed : at < length s → ascii (get_or s at 0) ≡ true → Passed s at 1 1 true
  letter-passed h e =
      let a = get_or s at 0 in
      let l = ltb-true a 0x80 e in
      let q = char_of-at s at h ∙ by_one a _ _ _ (omega arith) in
      char-passed h q 1 true (ap length (one_unit a (omega arith))) (lt-ltb a 0x100 (omega arith))

  common_passed : at + 3 ≤ length s → common_at s at ≡ true → Passed s at 3 1 false
  common_passed h e =
      let a = get_or s at 0 in
      let b = get_or s (at + 1) 0 in
      let c = get_or s (at + 2) 0 in
      let r = common_is a b c e in
      let v = joined (joined (a - 0xE0) b) c in
      let q = char_of-at s at (omega arith) ∙ by_three a b c _ (omega arith) (common_three a b c e) in
      char-passed (omega arith) q 1 false (ap length (one_unit v (omega arith))) (le-ltb v 0x100 (omega arith))

  plane_passed : at + 4 ≤ length s → plane_at s at ≡ true → Passed s at 4 2 false
  plane_passed h e =
      let a = get_or s at 0 in
      let b = get_or s (at + 1) 0 in
      let c = get_or s (at + 2) 0 in
      let d = get_or s (at + 3) 0 in
      let r = plane_is a b c d e in
      let v = joined (joined (joined (a - 0xF0) b) c) d in
      let q = char_of-at s at (omega arith) ∙ by-four a b c d (omega arith) (plane_four a b c d e) in
      char-passed (omega arith) q 2 false (two-units v (omega arith)) (le-ltb v 0x100 (omega arith))

module _ (s : List ℕ) (at : ℕ) where
  -- k bytes of ASCII, one after the other
  every-ascii : (k : ℕ) → at + k ≤ length s → every ascii (take k (drop at s)) ≡ true
      → measured (from_utf8 (drop at s)) ≡ added k true (measured (from_utf8 (drop (at + k) s)))
  every-ascii zero h e = let n : at + 0 ≡ at = omega arith in rw n (added_none _)
  every-ascii (suc k) h e =
      let there : k < length (drop at s) = simp length-drop (omega arith) in
      let f : every ascii (take (k + 1) (drop at s)) ≡ true = rw (add-one k) e in
      let p = both (every ascii (take k (drop at s))) (ascii (get_or (drop at s) k 0)) (sym (every-next ascii (drop at s) k there) ∙ f) in
      let g : ascii (get_or s (at + k) 0) ≡ true = rw (← get_or-drop at s k 0) p.1 in
      let n : at + k + 1 ≡ at + suc k = omega arith in
      every-ascii k (omega arith) p.0 ∙ ap (added k true) (letter-passed s (at + k) (omega arith) g).is ∙ rw (n, ← add-one k) (added_twice k 1 true true _)

  -- k characters of ASCII
  pub ascii-passed : (k : ℕ) → 0 < k → at + k ≤ length s → every ascii (take k (drop at s)) ≡ true → Passed s at k k true
  ascii-passed k some h e = record {
    some = some;
    within = h;
    few = omega arith;
    is = every-ascii k h e;
  }

  -- four, each tested
  pub ascii-four-passed : at + 4 ≤ length s → (ascii (get_or s at 0) && ascii (get_or s (at + 1) 0) && ascii (get_or s (at + 2) 0) && ascii (get_or s (at + 3) 0)) ≡ true
      → Passed s at 4 4 true
  ascii-four-passed h e = ascii-passed 4 (omega arith) h (sym (every-four ascii s at h) ∙ e)

  -- four common characters, two of planes 1 to 3
  pub four-passed : at + 12 ≤ length s → (common_at s at && common_at s (at + 3) && common_at s (at + 6) && common_at s (at + 9)) ≡ true → Passed s at 12 4 false
  four-passed h e =
      let p = both (common_at s at && common_at s (at + 3) && common_at s (at + 6)) (common_at s (at + 9)) e in
      let q = both (common_at s at && common_at s (at + 3)) (common_at s (at + 6)) p.0 in
      let r = both (common_at s at) (common_at s (at + 3)) q.0 in
      passed_then
      (passed_then (passed_then (common_passed s at (omega arith) r.0) (common_passed s (at + 3) (omega arith) r.1)) (common_passed s (at + 6) (omega arith) q.1))
      (common_passed s (at + 9) (omega arith) p.1)

  pub two-passed : at + 8 ≤ length s → (plane_at s at && plane_at s (at + 4)) ≡ true → Passed s at 8 4 false
  two-passed h e =
      let p = both (plane_at s at) (plane_at s (at + 4)) e in
      passed_then (plane_passed s at (omega arith) p.0) (plane_passed s (at + 4) (omega arith) p.1)

  -- one character, by how many bytes it has; none
  pub one-passed : at < length s → {c : Char} → char_of (drop at s) ≡ Some c → Passed s at c.size (cond (eqb c.size 4) 2 1) (ltb c.value 0x100)
  one-passed h {c} e = char-passed s at h e _ _ (sized-units c.value c.size (char-starts (drop at s) e).size (sized c.value)) refl

  pub none_passed : at < length s → char_of (drop at s) ≡ None → measured (from_utf8 (drop at s)) ≡ None
  unfolding measured
  none_passed h e = ap measured (turn-ill s at h e)
