-- Laws of text of characters of one and two bytes: bytes that are right one by one are UTF-8, and how it is measured. Assumes nothing.
use Rattle.std.specs.Prelude.{◌≡◌, refl, Bool, false, cond, not, ◌&&◌, ◌||◌, List, [], ◌∷◌, ◌++◌, ◌⊎◌, ℕ, suc, ◌+◌, ◌-◌, ◌≤◌, ◌<◌, leb, length, get_or, take, drop}
use Rattle.std.proofs.Math.Path.{sym, ap}
use Rattle.std.proofs.Common.{◌∙◌, inl, inr, add-one, arith, length-drop, drop_of_length-le, drop-cons, length-take-le, get_or-take, get_or-drop, drop-drop, take-add}
use Rattle.std.proofs.Math.Bool.{true, xor, and-true, and-false, and_assoc}
use Rattle.std.proofs.Math.Logic.{⊎_elim}
use borrow.Author.Tests.{lt-ltb, le-ltb, lt-leb, le-leb, leb-false}
use Rattle.std.proofs.Math.Dec.{ltb}
use mir.Val.{bool_byte}
use Rattle.base.specs.Never.{never}
use Rattle.base.specs.Choose.{lt_or_le}
use Rattle.text.specs.Affix.{all_ascii}
use Rattle.text.specs.Utf16.{encode16}
use Rattle.text.specs.Utf8.{from_utf8, from_utf8_on}
use Rattle.decode.specs.declared.narrow.Seen.{Seen}
use Rattle.decode.specs.ReadLaws.{both}
use Rattle.decode.specs.Chars.{Range, within, tail, is_two, joined, char_of, a_char}
use Rattle.decode.proofs.TableLaws.{inside, within-is, by_one, by_two}
use Rattle.decode.proofs.CharLaws.{char-more}
use Rattle.decode.specs.Measure.{measured, a_text}
use Rattle.decode.proofs.TurnLaws.{one_unit}
use Rattle.decode.specs.Latin.{all_low}
use Rattle.decode.proofs.LatinLaws.{low_append}
use Rattle.decode.specs.Step.{added}
use Rattle.decode.proofs.StepLaws.{added_more}
use Rattle.decode.proofs.PlainLaws.{plain-measured}
use Rattle.decode.specs.Narrow.{wrong, all_right, ends, SeenRight, last_byte}
pub use Rattle.decode.specs.NarrowLaws.{Far, Good}

-- two tests that both fail
pub neither : (t u : Bool) → (t || u) ≡ false → (t ≡ false) × (u ≡ false)
neither true u e = never (cc)
neither false u e = (refl, e)

-- a bool as a number
pub bit_is : (b : Bool) → bool_byte b ≡ cond b 1 0
bit_is true = refl
bit_is false = refl

pub bit_few : {e : ℕ} (b : Bool) → e ≡ bool_byte b → e ≤ 1
bit_few true h = omega arith
bit_few false h = omega arith

-- ---- a byte that is right

none_of : (t l w h : Bool) → not (xor t l || w || h) ≡ true → (t ≡ l) × (w ≡ false) × (h ≡ false)
unfolding xor
none_of true true false false e = (refl, refl, refl)
none_of false false false false e = (refl, refl, refl)
none_of true true true h e = never (cc)
none_of true true false true e = never (cc)
none_of false false true h e = never (cc)
none_of false false false true e = never (cc)
none_of true false w h e = never (cc)
none_of false true w h e = never (cc)

module _ (z b : ℕ) (e : not (wrong z b) ≡ true) where
  right_is : (tail b ≡ leb 0xC0 z) × (within 0xC0 0xC1 b ≡ false) × (leb 0xE0 b ≡ false)
  unfolding wrong
  right_is = none_of (tail b) (leb 0xC0 z) (within 0xC0 0xC1 b) (leb 0xE0 b) e

  -- after a first byte of two, and after any other
  tail-is : 0xC0 ≤ z → Range 0x80 0xBF b
  tail-is h = within-is 0x80 0xBF b (right_is.0 ∙ le-leb 0xC0 z h)

  first-is : z < 0xC0 → (b < 0x80) ⊎ Range 0xC2 0xDF b
  first-is h =
      let t : tail b ≡ false = right_is.0 ∙ lt-leb 0xC0 z h in
      let l = leb-false 0xE0 b right_is.2 in
      ⊎_elim (λ (k : b < 0x80). inl k)
      (λ (k : 0x80 ≤ b).
      ⊎_elim (λ (m : b < 0xC0). let f = inside 0x80 0xBF b k (omega arith) in never (cc))
      (λ (m : 0xC0 ≤ b).
      ⊎_elim (λ (o : b < 0xC2). let f = inside 0xC0 0xC1 b m (omega arith) in let g = right_is.1 in never (cc))
      (λ (o : 0xC2 ≤ b). inr (o, omega arith))
      (lt_or_le b 0xC2))
      (lt_or_le b 0xC0))
      (lt_or_le b 0x80)

-- ---- bytes that are right are UTF-8

-- one character of one byte or two before a text
module _ (s : List ℕ) {n : ℕ} {latin : Bool} (rest : measured (from_utf8 s) ≡ a_text n latin) where
  one-first : (b : ℕ) → b < 0x80 → measured (from_utf8 (b ∷ s)) ≡ a_text (1 + n) latin
  unfolding char_of added
  one-first b h =
      let e : char_of (b ∷ s) ≡ a_char b 1 = by_one b _ _ _ (omega arith) in
      ap measured (char-more (b ∷ s) e) ∙ added_more b (from_utf8 s) ∙ rw (rest, one_unit b (omega arith), lt-ltb b 0x100 (omega arith))

  two-first : (a b : ℕ) → Range 0xC2 0xDF a → Range 0x80 0xBF b → measured (from_utf8 (a ∷ b ∷ s)) ≡ a_text (1 + n) (ltb a 0xC4 && latin)
  unfolding char_of added is_two
  two-first a b h k =
      let v = joined (a - 0xC0) b in
      let t : is_two a b ≡ true = rw (inside 0xC2 0xDF a h.0 h.1, inside 0x80 0xBF b k.0 k.1) in
      let e : char_of (a ∷ b ∷ s) ≡ a_char v 2 = by_two a b _ _ (omega arith) t in
      let l : ltb v 0x100 ≡ ltb a 0xC4 =
      ⊎_elim (λ (m : a < 0xC4). lt-ltb v 0x100 (omega arith) ∙ sym (lt-ltb a 0xC4 m)) (λ (m : 0xC4 ≤ a). le-ltb v 0x100 (omega arith) ∙ sym (le-ltb a 0xC4 m))
      (lt_or_le a 0xC4) in
      ap measured (char-more (a ∷ b ∷ s) e) ∙ added_more v (from_utf8 s) ∙ rw (rest, one_unit v (omega arith), l)

right-measured : (z : ℕ) (s : List ℕ) → z < 0xC0 → all_right z s ≡ true → last_byte z s < 0xC0 → measured (from_utf8 s) ≡ a_text (ends s) (all_low s)
unfolding measured from_utf8 from_utf8_on encode16
right-measured z [] h e l = refl
right-measured z (a ∷ []) h e l =
    let p = both (not (wrong z a)) true e in
    ⊎_elim (λ (k : a < 0x80). one-first [] refl a k ∙ rw (lt-ltb a 0xC0 (omega arith), lt-ltb a 0xC4 (omega arith))) (λ k. absurd (omega arith)) (first-is z a p.0 h)
right-measured z (a ∷ b ∷ s) h e l =
    let p = both (not (wrong z a)) (all_right a (b ∷ s)) e in
    let q = both (not (wrong a b)) (all_right b s) p.1 in
    ⊎_elim
    (λ (k : a < 0x80).
    one-first (b ∷ s) (right-measured a (b ∷ s) (omega arith) p.1 l) a k ∙ rw (lt-ltb a 0xC0 (omega arith), lt-ltb a 0xC4 (omega arith)))
    (λ (k : Range 0xC2 0xDF a).
    let m = tail-is a b q.0 (omega arith) in
    let n : 0 + (1 + ends s) ≡ 1 + ends s = omega arith in
    two-first s (right-measured b s (omega arith) q.1 l) a b k m
    ∙ rw (le-ltb a 0xC0 (omega arith), lt-ltb b 0xC0 (omega arith), lt-ltb b 0xC4 (omega arith), n))
    (first-is z a p.0 h)

pub far_none : (z : ℕ) (v : List ℕ) → Far z v z v false false 0
far_none z v = record { right = refl; low = refl; units = omega arith }

-- one more that is bad or not
worse : (bad x r : Bool) → (not bad && (not x && r)) ≡ (not (bad || x) && r)
worse true x r = refl
worse false x r = refl

no_worse : (bad x : Bool) → bad ≡ (bad || (x && false))
no_worse true x = refl
no_worse false x = sym (and-false x)

low-not : (b : ℕ) → ltb b 0xC4 ≡ not (leb 0xC4 b)
low-not b = ⊎_elim (λ (h : b < 0xC4). rw (lt-ltb b 0xC4 h, lt-leb 0xC4 b h)) (λ (h : 0xC4 ≤ b). rw (le-ltb b 0xC4 h, le-leb 0xC4 b h)) (lt_or_le b 0xC4)

module _ {z : ℕ} {v : List ℕ} {y : ℕ} {r : List ℕ} {bad high : Bool} {u : ℕ} (f : Far z v y r bad high u) where
  pub far-all : r ≡ [] → bad ≡ false → SeenRight z v (record { low = not high; units = u })
  far-all e b = record {
    right = f.right ∙ rw (e, b);
    low = sym (f.low ∙ rw (e, and-true (not high)));
    units = omega (arith, f.units, ap ends e);
  }

  pub far-bad : bad ≡ true → all_right z v ≡ false
  far-bad b = f.right ∙ rw b

  -- a byte that is on, and one that is masked out
  far-on : {b : ℕ} {t : List ℕ} → r ≡ b ∷ t → Far z v b t (bad || (wrong y b && true)) (high || (leb 0xC4 b && true)) (u + cond (ltb b 0xC0 && true) 1 0)
  far-on {b} {t} e = record {
    right = f.right ∙ rw (e, and-true (wrong y b)) (worse bad (wrong y b) (all_right b t));
    low = f.low ∙ rw (e, and-true (leb 0xC4 b), low-not b) (worse high (leb 0xC4 b) (all_low t));
    units = rw (and-true (ltb b 0xC0)) (omega (arith, f.units, ap ends e));
  }

  far_off : (b : ℕ) {t : List ℕ} → r ≡ [] → t ≡ [] → Far z v b t (bad || (wrong y b && false)) (high || (leb 0xC4 b && false)) (u + cond (ltb b 0xC0 && false) 1 0)
  far_off b {t} e d = record {
    right = f.right ∙ rw (e, d, ← no_worse bad (wrong y b));
    low = f.low ∙ rw (e, d, ← no_worse high (leb 0xC4 b));
    units = rw (and-false (ltb b 0xC0), d) (omega (arith, f.units, ap ends e));
  }

-- the first n bytes from a place on
module _ (s : List ℕ) (at n : ℕ) (fits : at + n ≤ length s) where
  abbrev front : List ℕ
  front = take n (drop at s)

  front_length : length front ≡ n
  front_length = length-take-le n (drop at s) (omega (arith, length-drop at s))

  front-on : (i : ℕ) → i < n → drop i front ≡ get_or s (at + i) 0 ∷ drop (i + 1) front
  front-on i h = drop-cons front i 0 (omega (arith, front_length)) ∙ rw (get_or-take n (drop at s) i 0 h, get_or-drop at s i 0, add-one i)

  pub front_off : (i : ℕ) → n ≤ i → drop i front ≡ []
  front_off i h = drop_of_length-le front {i = i} (omega (arith, front_length))

  -- a turn: the byte at i is on where i is below n
  pub far-next : (z y i : ℕ) {bad high : Bool} {u : ℕ} → Far z front y (drop i front) bad high u
      → (on : Bool) → on ≡ ltb i n → (x : Bool) → x ≡ wrong y (get_or s (at + i) 0) → (e : ℕ) → e ≡ bool_byte (ltb (get_or s (at + i) 0) 0xC0 && on)
      → Far z front (get_or s (at + i) 0) (drop (i + 1) front) (bad || (x && on)) (high || (leb 0xC4 (get_or s (at + i) 0) && on)) (u + e)
  far-next z y i f on eo x ex e ee =
      ⊎_elim (λ (h : i < n). rw (ex, ee, bit_is (ltb (get_or s (at + i) 0) 0xC0 && on), eo, lt-ltb i n h) (far-on f (front-on i h)))
      (λ (h : n ≤ i). rw (ex, ee, bit_is (ltb (get_or s (at + i) 0) 0xC0 && on), eo, le-ltb i n h) (far_off f (get_or s (at + i) 0) (front_off i h) (front_off (i + 1) (omega arith))))
      (lt_or_le i n)

  -- the same of a byte that is on
  pub far-full : (z y i : ℕ) {bad high : Bool} {u : ℕ} → Far z front y (drop i front) bad high u → i < n
      → (x : Bool) → x ≡ wrong y (get_or s (at + i) 0) → (e : ℕ) → e ≡ cond (ltb (get_or s (at + i) 0) 0xC0) 1 0
      → Far z front (get_or s (at + i) 0) (drop (i + 1) front) (bad || x) (high || leb 0xC4 (get_or s (at + i) 0)) (u + e)
  far-full z y i f h x ex e ee =
      let b = get_or s (at + i) 0 in
      rw (ex, ee) (rw (and-true (wrong y b), and-true (leb 0xC4 b), and-true (ltb b 0xC0)) at (far-on f (front-on i h)))

-- where all are on, each of them is below n
pub masked : (all : Bool) (i n : ℕ) → (all ≡ true → i < n) → (all || ltb i n) ≡ ltb i n
masked true i n h = sym (lt-ltb i n (h refl))
masked false i n h = refl

-- ---- a text window by window: all bytes from one place to another are right, u of them end a character, and they fit Latin-1 or not

right_append : (z : ℕ) (s t : List ℕ) → all_right z (s ++ t) ≡ (all_right z s && all_right (last_byte z s) t)
right_append z [] t = refl
right_append z (b ∷ s) t = rw (right_append b s t) (sym (and_assoc (not (wrong z b)) (all_right b s) (all_right (last_byte b s) t)))

ends_append : (s t : List ℕ) → ends (s ++ t) ≡ ends s + ends t
ends_append [] t = omega arith
ends_append (b ∷ s) t = let e = ends_append s t in omega arith

ends-few : (s : List ℕ) → ends s ≤ length s
ends-few [] = omega arith
ends-few (b ∷ s) = let e = ends-few s in omega (arith, few (ltb b 0xC0))
  where
    few : (t : Bool) → cond t 1 0 ≤ 1
    few true = omega arith
    few false = omega arith

last-at : (z : ℕ) (s : List ℕ) (i : ℕ) → length s ≡ i + 1 → last_byte z s ≡ get_or s i 0
last-at z [] i h = absurd (omega arith)
last-at z (b ∷ []) i h = let e : i ≡ 0 = omega arith in rw e
last-at z (b ∷ c ∷ s) i h =
    let e : i ≡ suc (i - 1) = omega arith in
    last-at b (c ∷ s) (i - 1) (omega arith) ∙ ap (λ (k : ℕ). get_or (b ∷ c ∷ s) k 0) (sym e)

module _ (s : List ℕ) (from at : ℕ) (some : from < at) (fits : at ≤ length s) where
  abbrev part : List ℕ
  part = take (at - from) (drop from s)

  part_length : length part ≡ at - from
  part_length = length-take-le (at - from) (drop from s) (omega (arith, length-drop from s))

  -- the byte before a place is the last up to there
  part-last : last_byte 0 part ≡ get_or s (at - 1) 0
  part-last =
      let e : from + (at - from - 1) ≡ at - 1 = omega arith in
      last-at 0 part (at - from - 1) (omega (arith, part_length))
      ∙ get_or-take (at - from) (drop from s) (at - from - 1) 0 (omega arith) ∙ get_or-drop from s (at - from - 1) 0 ∙ rw e

  part_then : (n : ℕ) → take (at + n - from) (drop from s) ≡ part ++ take n (drop at s)
  part_then n =
      let e : at + n - from ≡ at - from + n = omega arith in
      let d : from + (at - from) ≡ at = omega arith in
      rw (e, take-add (at - from) n (drop from s), drop-drop (at - from) from s, d)

  -- a window more
  pub good-next : {u : ℕ} {latin : Bool} → Good s from at u latin → (n : ℕ) {w : Seen} → SeenRight (get_or s (at - 1) 0) (take n (drop at s)) w
      → Good s from (at + n) (u + w.units) (latin && w.low)
  good-next g n w =
      let v = take n (drop at s) in
      record {
        right = rw (part_then n, right_append 0 part v, part-last, g.right) w.right;
        low = rw (part_then n, low_append part v, g.low, w.low);
        units = rw (part_then n) (omega (arith, ends_append part v, g.units, w.units));
      }

  pub good-few : {u : ℕ} {latin : Bool} → Good s from at u latin → u ≤ at - from
  good-few g = omega (arith, g.units, ends-few part, part_length)

  -- all of them
  pub good-measured : {u : ℕ} {latin : Bool} → Good s from at u latin → get_or s (at - 1) 0 < 0xC0 → a_text u latin ≡ measured (from_utf8 part)
  good-measured g h = rw (g.units, g.low) (sym (right-measured 0 part (omega arith) g.right (omega (arith, part-last))))

-- the first byte
pub good-first : (s : List ℕ) (from : ℕ) → from < length s → wrong 0 (get_or s from 0) ≡ false
    → Good s from (from + 1) (cond (ltb (get_or s from 0) 0xC0) 1 0) (ltb (get_or s from 0) 0xC4)
good-first s from h e =
    let a = get_or s from 0 in
    let n : from + 1 - from ≡ 1 = omega arith in
    let d : take 1 (drop from s) ≡ a ∷ [] = rw (drop-cons s from 0 h) in
    record {
      right = rw (n, d, e);
      low = rw (n, d) (sym (and-true (ltb a 0xC4)));
      units = rw (n, d) (omega arith);
    }

-- ---- what the test for ASCII says of a part

module _ (s : List ℕ) (from to : ℕ) (fits : to ≤ length s) (b : Bool) (is : b ≡ all_ascii (take (to - from) (drop from s))) where
  pub part-plain : b ≡ true → a_text (to - from) true ≡ measured (from_utf8 (take (to - from) (drop from s)))
  part-plain e =
      ap (λ (n : ℕ). a_text n true) (sym (length-take-le (to - from) (drop from s) (omega (arith, length-drop from s)))) ∙ plain-measured _ b is e

  pub part-some : b ≡ false → from < to
  part-some e = ⊎_elim (λ (h : from < to). h) (λ (h : to ≤ from). let n : to - from ≡ 0 = omega arith in let f = rw n at is in never (cc)) (lt_or_le from to)
