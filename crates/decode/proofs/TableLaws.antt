-- Laws of the table of RFC 3629: its tests as facts, and the first character by its bytes. Assumes nothing.
use Rattle.std.specs.Prelude.{◌≡◌, refl, Bool, true, false, cond, ◌&&◌, List, [], ◌∷◌, ℕ, zero, suc, ◌+◌, ◌-◌, ◌≤◌, ◌<◌, leb, eqb, length, get_or, take, drop, None}
use Rattle.std.proofs.Common.{sym, ◌∙◌, ⊎_elim, arith, le-leb, leb-true, eqb-true, length-drop, take_all, get_or-drop}
use Rattle.std.proofs.lemmas.Bool.{lt-leb, eqb-false}
use Rattle.base.specs.Choose.{lt_or_le}
use Rattle.decode.specs.ReadLaws.{both}
use Rattle.decode.specs.Chars.{Range, within, tail, second, is_two, is_three, is_four, is_common, joined, char_by, char_of, a_char}
pub use Rattle.decode.specs.TableLaws.{Second}

-- the tests as facts
pub inside : (low high b : ℕ) → low ≤ b → b ≤ high → within low high b ≡ true
inside low high b l h = rw (le-leb low b l, le-leb b high h)

pub within-is : (low high b : ℕ) → within low high b ≡ true → Range low high b
within-is low high b e = let p = both (leb low b) (leb b high) e in (leb-true low b p.0, leb-true b high p.1)

above : (low high b : ℕ) → high < b → within low high b ≡ false
above low high b h = rw (lt-leb b high h) (go (leb low b))
  where
    go : (t : Bool) → (t && false) ≡ false
    go true = refl
    go false = refl

below : (low high b : ℕ) → b < low → within low high b ≡ false
below low high b h = rw (lt-leb low b h)

second_is : (a b : ℕ) → second a b ≡ true → Second a b
unfolding second
second_is a b e = go (eqb a 0xE0) refl (eqb a 0xED) refl (eqb a 0xF0) refl (eqb a 0xF4) refl e
  where
    go : (t : Bool) → eqb a 0xE0 ≡ t → (u : Bool) → eqb a 0xED ≡ u → (v : Bool) → eqb a 0xF0 ≡ v → (w : Bool) → eqb a 0xF4 ≡ w
        → cond t (within 0xA0 0xBF b) (cond u (within 0x80 0x9F b) (cond v (within 0x90 0xBF b) (cond w (within 0x80 0x8F b) (tail b)))) ≡ true
        → Second a b
    go true p u q v r w z e =
        let k = within-is 0xA0 0xBF b e in
        let is = eqb-true a 0xE0 p in
        record {
          low = omega arith;
          high = k.1;
          after_e0 = λ _. k.0;
          after_ed = λ i. omega arith;
          after_f0 = λ i. omega arith;
          after_f4 = λ i. omega arith;
        }
    go false p true q v r w z e =
        let k = within-is 0x80 0x9F b e in
        let is = eqb-true a 0xED q in
        record {
          low = k.0;
          high = omega arith;
          after_e0 = λ i. omega arith;
          after_ed = λ _. k.1;
          after_f0 = λ i. omega arith;
          after_f4 = λ i. omega arith;
        }
    go false p false q true r w z e =
        let k = within-is 0x90 0xBF b e in
        let is = eqb-true a 0xF0 r in
        record {
          low = omega arith;
          high = k.1;
          after_e0 = λ i. omega arith;
          after_ed = λ i. omega arith;
          after_f0 = λ _. k.0;
          after_f4 = λ i. omega arith;
        }
    go false p false q false r true z e =
        let k = within-is 0x80 0x8F b e in
        let is = eqb-true a 0xF4 z in
        record {
          low = k.0;
          high = omega arith;
          after_e0 = λ i. omega arith;
          after_ed = λ i. omega arith;
          after_f0 = λ i. omega arith;
          after_f4 = λ _. k.1;
        }
    go false p false q false r false z e =
        let k = within-is 0x80 0xBF b e in
        record {
          low = k.0;
          high = k.1;
          after_e0 = λ i. absurd (eqb-false a 0xE0 p i);
          after_ed = λ i. absurd (eqb-false a 0xED q i);
          after_f0 = λ i. absurd (eqb-false a 0xF0 r i);
          after_f4 = λ i. absurd (eqb-false a 0xF4 z i);
        }

pub second-true : (a b : ℕ) → Second a b → second a b ≡ true
unfolding second
second-true a b k = go (eqb a 0xE0) refl (eqb a 0xED) refl (eqb a 0xF0) refl (eqb a 0xF4) refl
  where
    go : (t : Bool) → eqb a 0xE0 ≡ t → (u : Bool) → eqb a 0xED ≡ u → (v : Bool) → eqb a 0xF0 ≡ v → (w : Bool) → eqb a 0xF4 ≡ w
        → cond t (within 0xA0 0xBF b) (cond u (within 0x80 0x9F b) (cond v (within 0x90 0xBF b) (cond w (within 0x80 0x8F b) (tail b)))) ≡ true
    go true p u q v r w z = inside 0xA0 0xBF b (k.after_e0 (eqb-true a 0xE0 p)) k.high
    go false p true q v r w z = inside 0x80 0x9F b k.low (k.after_ed (eqb-true a 0xED q))
    go false p false q true r w z = inside 0x90 0xBF b (k.after_f0 (eqb-true a 0xF0 r)) k.high
    go false p false q false r true z = inside 0x80 0x8F b k.low (k.after_f4 (eqb-true a 0xF4 z))
    go false p false q false r false z = inside 0x80 0xBF b k.low k.high

-- the bytes of two, three and four, as facts
pub two_is : (a b : ℕ) → is_two a b ≡ true → Range 0xC2 0xDF a × Range 0x80 0xBF b
unfolding is_two
two_is a b e = let p = both (within 0xC2 0xDF a) (tail b) e in (within-is _ _ a p.0, within-is _ _ b p.1)

pub three-is : (a b c : ℕ) → is_three a b c ≡ true → Range 0xE0 0xEF a × Second a b × Range 0x80 0xBF c
unfolding is_three
three-is a b c e =
    let p = both (within 0xE0 0xEF a && second a b) (tail c) e in
    let q = both (within 0xE0 0xEF a) (second a b) p.0 in
    (within-is _ _ a q.0, second_is a b q.1, within-is _ _ c p.1)

pub four_is : (a b c d : ℕ) → is_four a b c d ≡ true
    → Range 0xF0 0xF4 a × Second a b × Range 0x80 0xBF c × Range 0x80 0xBF d
unfolding is_four
four_is a b c d e =
    let p = both (within 0xF0 0xF4 a && second a b && tail c) (tail d) e in
    let q = both (within 0xF0 0xF4 a && second a b) (tail c) p.0 in
    let r = both (within 0xF0 0xF4 a) (second a b) q.0 in
    (within-is _ _ a r.0, second_is a b r.1, within-is _ _ c q.1, within-is _ _ d p.1)

-- a second byte is a tail
pub three-range : (a b c : ℕ) → is_three a b c ≡ true → Range 0xE0 0xEF a × Range 0x80 0xBF b × Range 0x80 0xBF c
three-range a b c e = let h = three-is a b c e in (h.0, (h.1.low, h.1.high), h.2)

pub four-range : (a b c d : ℕ) → is_four a b c d ≡ true → Range 0xF0 0xF4 a × Range 0x80 0xBF b × Range 0x80 0xBF c × Range 0x80 0xBF d
four-range a b c d e = let h = four_is a b c d e in (h.0, (h.1.low, h.1.high), h.2, h.3)

-- a common character of three bytes is one of three
pub common_is : (a b c : ℕ) → is_common a b c ≡ true → Range 0xE1 0xEC a × Range 0x80 0xBF b × Range 0x80 0xBF c
unfolding is_common
common_is a b c e =
    let p = both (within 0xE1 0xEC a && tail b) (tail c) e in
    let q = both (within 0xE1 0xEC a) (tail b) p.0 in
    (within-is _ _ a q.0, within-is _ _ b q.1, within-is _ _ c p.1)

pub common_three : (a b c : ℕ) → is_common a b c ≡ true → is_three a b c ≡ true
unfolding is_three
common_three a b c e =
    let h = common_is a b c e in
    let k : Second a b = record {
      low = h.1.0;
      high = h.1.1;
      after_e0 = λ i. omega arith;
      after_ed = λ i. omega arith;
      after_f0 = λ i. omega arith;
      after_f4 = λ i. omega arith;
    } in
    rw (inside 0xE0 0xEF a (omega arith) (omega arith), second-true a b k, inside 0x80 0xBF c (omega arith) (omega arith))

-- char_by by its first byte
pub by_one : (a b c d : ℕ) → a ≤ 0x7F → char_by a b c d ≡ a_char a 1
unfolding char_by
by_one a b c d h = rw (le-leb a 0x7F h)

pub by_two : (a b c d : ℕ) → 0x7F < a → is_two a b ≡ true → char_by a b c d ≡ a_char (joined (a - 0xC0) b) 2
unfolding char_by
by_two a b c d h e = rw (lt-leb a 0x7F h, e)

no_two : (a b : ℕ) → 0xDF < a → is_two a b ≡ false
unfolding is_two
no_two a b h = rw (above 0xC2 0xDF a h)

no_three : (a b c : ℕ) → 0xEF < a → is_three a b c ≡ false
unfolding is_three
no_three a b c h = rw (above 0xE0 0xEF a h)

pub by_three : (a b c d : ℕ) → 0xDF < a → is_three a b c ≡ true → char_by a b c d ≡ a_char (joined (joined (a - 0xE0) b) c) 3
unfolding char_by
by_three a b c d h e = let k : 0x7F < a = omega arith in rw (lt-leb a 0x7F k, no_two a b h, e)

pub by-four : (a b c d : ℕ) → 0xEF < a → is_four a b c d ≡ true → char_by a b c d ≡ a_char (joined (joined (joined (a - 0xF0) b) c) d) 4
unfolding char_by
by-four a b c d h e =
    let k : 0x7F < a = omega arith in
    let j : 0xDF < a = omega arith in
    rw (lt-leb a 0x7F k, no_two a b j, no_three a b c h, e)

-- and no character, where the bytes that the first asks for don't follow
pub ill-four : (a b c d : ℕ) → 0xEF < a → is_four a b c d ≡ false → char_by a b c d ≡ None
unfolding char_by
ill-four a b c d h e =
    let k : 0x7F < a = omega arith in
    let j : 0xDF < a = omega arith in
    rw (lt-leb a 0x7F k, no_two a b j, no_three a b c h, e)

few-four : (a b c d : ℕ) → a < 0xF0 → is_four a b c d ≡ false
unfolding is_four
few-four a b c d h = rw (below 0xF0 0xF4 a h)

pub ill-three : (a b c d : ℕ) → 0xDF < a → a ≤ 0xEF → is_three a b c ≡ false → char_by a b c d ≡ None
unfolding char_by
ill-three a b c d h l e =
    let k : 0x7F < a = omega arith in
    let m : a < 0xF0 = omega arith in
    rw (lt-leb a 0x7F k, no_two a b h, e, few-four a b c d m)

few-three : (a b c : ℕ) → a < 0xE0 → is_three a b c ≡ false
unfolding is_three
few-three a b c h = rw (below 0xE0 0xEF a h)

pub ill-two : (a b c d : ℕ) → 0x7F < a → a ≤ 0xDF → is_two a b ≡ false → char_by a b c d ≡ None
unfolding char_by
ill-two a b c d h l e =
    let k : a < 0xE0 = omega arith in
    let m : a < 0xF0 = omega arith in
    rw (lt-leb a 0x7F h, e, few-three a b c k, few-four a b c d m)

-- a byte that is not there
pub get_d_out : (s : List ℕ) (i : ℕ) → length s ≤ i → get_or s i 0 ≡ 0
get_d_out [] i h = refl
get_d_out (b ∷ s) zero h = absurd (omega arith)
get_d_out (b ∷ s) (suc i) h = get_d_out s i (omega arith)

-- a byte that isn't 0 is there
pub there : (s : List ℕ) (i : ℕ) → 0x80 ≤ get_or s i 0 → i < length s
there s i h = ⊎_elim (λ (l : i < length s). l) (λ (l : length s ≤ i). absurd (omega (arith, get_d_out s i l))) (lt_or_le i (length s))

-- three bytes that are common are there
pub common_short : (s : List ℕ) (at : ℕ) → length s - at < 3 → is_common (get_or s at 0) (get_or s (at + 1) 0) (get_or s (at + 2) 0) ≡ false
common_short s at h = go (is_common (get_or s at 0) (get_or s (at + 1) 0) (get_or s (at + 2) 0)) refl
  where
    go : (t : Bool) → is_common (get_or s at 0) (get_or s (at + 1) 0) (get_or s (at + 2) 0) ≡ t → t ≡ false
    go false e = refl
    go true e =
        let r = three-range _ _ _ (common_three _ _ _ e) in
        absurd (omega (arith, there s (at + 2) r.2.0))

-- char_of by its bytes
pub char_of-none : (s : List ℕ) → length s < 1 → char_of s ≡ None
unfolding char_of
char_of-none [] h = refl
char_of-none (a ∷ s) h = absurd (omega arith)

pub char_of-bytes : (s : List ℕ) → 0 < length s → char_of s ≡ char_by (get_or s 0 0) (get_or s 1 0) (get_or s 2 0) (get_or s 3 0)
unfolding char_of
char_of-bytes [] h = absurd (omega arith)
char_of-bytes (a ∷ s) h = refl

-- the bytes from a place on, as code lends them
pub part-is : (s : List ℕ) (at : ℕ) → take (length s - at) (drop at s) ≡ drop at s
part-is s at = let h : length (drop at s) ≤ length s - at = simp length-drop (omega arith) in take_all (length s - at) (drop at s) h

-- char_of at a place, by the bytes there
pub char_of-at : (s : List ℕ) (at : ℕ) → at < length s → char_of (drop at s) ≡ char_by (get_or s at 0) (get_or s (at + 1) 0) (get_or s (at + 2) 0) (get_or s (at + 3) 0)
char_of-at s at h =
    let e : at + 0 ≡ at = omega arith in
    char_of-bytes (drop at s) (omega (arith, length-drop at s))
    ∙ rw (get_or-drop at s 0 0, e, get_or-drop at s 1 0, get_or-drop at s 2 0, get_or-drop at s 3 0)

module _ (s : List ℕ) (at : ℕ) (h : at < length s) (a : ℕ) (ea : a ≡ get_or s at 0) where
  pub quick-one : a ≤ 0x7F → a_char a 1 ≡ char_of (drop at s)
  quick-one l = rw (char_of-at s at h, ← ea) (sym (by_one a _ _ _ l))

  module _ (t : Bool) (et : t ≡ is_common (get_or s at 0) (get_or s (at + 1) 0) (get_or s (at + 2) 0)) (is : t ≡ true) where
    is_three_lem : is_three a (get_or s (at + 1) 0) (get_or s (at + 2) 0) ≡ true
    is_three_lem = rw ea (common_three _ _ _ (sym et ∙ is))

    pub quick-there : at + 2 < length s
    quick-there = there s (at + 2) (three-range _ _ _ is_three_lem).2.0

    module _ (b : ℕ) (eb : b ≡ get_or s (at + 1) 0) (c : ℕ) (ec : c ≡ get_or s (at + 2) 0) where
      pub quick-range : Range 0xE0 0xEF a × Range 0x80 0xBF b × Range 0x80 0xBF c
      quick-range = rw (eb, ec) (three-range _ _ _ is_three_lem)

      pub quick-three : (v : ℕ) → v ≡ joined (joined (a - 0xE0) b) c → a_char v 3 ≡ char_of (drop at s)
      quick-three v ev =
          let r = three-range _ _ _ is_three_lem in
          rw (char_of-at s at h, ← ea, ev, eb, ec) (sym (by_three a _ _ _ (omega arith) is_three_lem))
