-- Laws of text that fits Latin-1, by its bytes alone: the bytes that are kept are the text, and loops that store bytes, kept or not, and move on
-- behind those that are write them. Assumes nothing.
use Rattle.std.specs.Prelude.{◌≡◌, Bool, true, false, cond, List, [], ◌∷◌, ◌++◌, ltb, length, set, take, drop}
use Rattle.std.proofs.Math.Path.{refl}
use Rattle.std.proofs.Common.{sym, ap, ◌∙◌, append_assoc, append-nil, ⊎_elim, zero-add, add-one, lt-ltb, le-ltb, ltb-true, ltb-false, eq-eqb, ne_eqb, length-set, take-append-drop, take_all, drop-drop, length-append, length-take, length-drop, get_or-drop, drop_of_length-le, take-suc, drop-cons, drop-set-lt, get_or-set_same, get_or-set_other, get_or-take, length-take-le}
use Rattle.std.proofs.Math.Bool.{and-eq-true_iff}
use Prim.Native.Nat.{ℕ, ◌+◌, ◌-◌, ◌*◌, ◌/◌, ◌%◌, ◌≤◌, ◌<◌}
use native.Mathlib.Omega.{arith}
use mir.Val.{bool_byte}
use Rattle.std.specs.Int.Bits.{bit_or}
use Rattle.std.proofs.lemmas.Nat.Bits.{and_high}
use Rattle.std.proofs.lemmas.Nat.{or_disjoint}
use Rattle.std.proofs.Math.ListN.{get_or}
use Rattle.std.proofs.lemmas.List.{take-set-le}
use Rattle.std.proofs.Math.Seq.{take-append-add, drop-append-add}
use Rattle.base.specs.Choose.{lt_or_le}
use Rattle.base.specs.Output.{over, Wrote}
use Rattle.text.specs.Utf16.{is_well}
use Rattle.text.specs.Utf8.{utf8_one, utf8, from_utf8}
use Rattle.text.specs.Utf8Laws.{utf8_1, utf8_2, utf8_3, utf8_4, Sized, one, two, three, four, sized}
use Rattle.decode.specs.ReadLaws.{utf8_encode}
use Rattle.decode.specs.Chars.{Range}
use Rattle.decode.specs.Measure.{text_of, fits_latin1}
use Rattle.decode.specs.Tails.{raised, kept, Tailed, Filling, picked, ran, Meant, Counted}

-- ---- the bits of a byte

tail-raised : (b : ℕ) → Range 0x80 0xBF b → bit_or b 0x40 ≡ b + 0x40
tail-raised b h = let e : b / 64 ≡ 2 = omega arith in or_disjoint b 0x40 (and_high b 1 6 ∙ rw e)

raised-not : (before b : ℕ) → before < 0xC3 → raised before b ≡ b
unfolding raised
raised-not before b h = rw (ne_eqb before 0xC3 (λ (e : before ≡ 0xC3). omega arith))

raised-tail : (before b : ℕ) → before ≡ 0xC3 → Range 0x80 0xBF b → raised before b ≡ b + 0x40
unfolding raised
raised-tail before b e h = rw (eq-eqb before 0xC3 e) (tail-raised b h)

raised-two : (c : ℕ) → 0x80 ≤ c → c < 0x100 → raised (192 + c / 64) (128 + c % 64) ≡ c
raised-two c l h =
    ⊎_elim (λ (k : c < 0xC0). raised-not (192 + c / 64) (128 + c % 64) (omega arith) ∙ omega arith)
    (λ (k : 0xC0 ≤ c). raised-tail (192 + c / 64) (128 + c % 64) (omega arith) (omega arith, omega arith) ∙ omega arith) (lt_or_le c 0xC0)

-- ---- the bytes that are kept

kept_low : (before b : ℕ) (s : List ℕ) → b < 0xC0 → kept before (b ∷ s) ≡ raised before b ∷ kept b s
kept_low before b s h = rw (lt-ltb b 0xC0 h)

kept_high : (before b : ℕ) (s : List ℕ) → 0xC0 ≤ b → kept before (b ∷ s) ≡ kept b s
kept_high before b s h = rw (le-ltb b 0xC0 h)

-- where bytes are left some are kept, and where three are left, two
kept-some : (before b : ℕ) (s : List ℕ) → Tailed before (b ∷ s) → 1 ≤ length (kept before (b ∷ s))
kept-some before b [] h = rw (kept_low before b [] h.1) (omega arith)
kept-some before b (x ∷ s) h =
    ⊎_elim (λ (l : b < 0xC0). rw (kept_low before b (x ∷ s) l) (omega arith))
    (λ (l : 0xC0 ≤ b). rw (kept_high before b (x ∷ s) l) (kept-some b x s h.1)) (lt_or_le b 0xC0)

kept-two : (before b c d : ℕ) (s : List ℕ) → Tailed before (b ∷ c ∷ d ∷ s) → 2 ≤ length (kept before (b ∷ c ∷ d ∷ s))
kept-two before b c d s h =
    ⊎_elim (λ (l : b < 0xC0). rw (kept_low before b (c ∷ d ∷ s) l) (omega (arith, kept-some b c (d ∷ s) h.1)))
    (λ (l : 0xC0 ≤ b). rw (kept_high before b (c ∷ d ∷ s) l, kept_low b c (d ∷ s) (h.1.0 l)) (omega (arith, kept-some c d s h.1.1))) (lt_or_le b 0xC0)

-- ---- loops that store bytes

pub filling_none : (old : List ℕ) (first : ℕ) (s : List ℕ) → Tailed first s → length (kept first s) ≤ length old → Filling old first s old 0 0 first
filling_none old first s h r = record { is = refl; size = omega arith; room = r; same = refl; rest = refl; ends = h }

-- the part `&mut out[n..]` has room for what is still to come
pub filling-left : {old s o : List ℕ} {first i n before : ℕ} → Filling old first s o i n before
    → length (kept before (drop i s)) ≤ length (take (length o - n) (drop n o))
filling-left k = simp (length-take, length-drop) (omega (arith, k.size, k.room, k.same))

-- that part was filled further, or to the end, and has come back: the list is as the borrow checker leaves it
module _ {old s o : List ℕ} {first i n before : ℕ} (k : Filling old first s o i n before) where
  abbrev part : List ℕ
  part = take (length o - n) (drop n o)

  part-is : part ≡ drop n o
  part-is = take_all (length o - n) (drop n o) (simp length-drop (omega arith))

  behind : drop (length o - n) (drop n o) ≡ []
  behind = drop_of_length-le (drop n o) {i = length o - n} (simp length-drop (omega arith))

  front : length (take n o) ≡ n
  front = length-take-le n o (omega (arith, k.size, k.room, k.same))

  pub filling-part : {p : List ℕ} {j m last : ℕ} → Filling part before (drop i s) p j m last
      → Filling old first s (take n o ++ (p ++ drop (length o - n) (drop n o))) (i + j) (n + m) last
  filling-part {p} {j} {m} {last} l =
      let x = length (kept before (drop i s)) in
      let back : take n o ++ (p ++ drop (length o - n) (drop n o)) ≡ take n o ++ p = rw (behind, append-nil p) in
      let d : drop j (drop i s) ≡ drop (i + j) s = drop-drop j i s in
      let taken : take (n + m) (take n o ++ p) ≡ take n o ++ take m p = rw front at (take-append-add (take n o) p m) in
      let left : drop (n + x) (take n o ++ p) ≡ drop x p = rw front at (drop-append-add (take n o) p x) in
      let e : n + x ≡ length (kept first s) = k.size in
      let f : length p ≡ length (drop n o) = rw part-is at l.same in
      let g : length p ≡ length o - n = f ∙ length-drop n o in
      record {
        is = rw (back, taken, append_assoc, ← d, l.is) k.is;
        size = rw (← d) (omega (arith, l.size, k.size));
        room = k.room;
        same = rw back (simp length-append (omega (arith, front, g, k.same, k.size, k.room)));
        rest = rw (back, ← e, left) (l.rest ∙ rw (part-is, drop-drop x n o, e) k.rest);
        ends = rw d at l.ends;
      }

  pub filling-end : {p : List ℕ} {m : ℕ} → Wrote part (kept before (drop i s)) p m
      → Wrote old (kept first s) (take n o ++ (p ++ drop (length o - n) (drop n o))) (n + m)
  unfolding over
  filling-end {p} {m} w =
      let x = length (kept before (drop i s)) in
      let e : n + x ≡ length (kept first s) = k.size in
      record {
        size = omega (arith, w.size, k.size);
        fits = omega (arith, w.size, k.size, k.room);
        is = rw (behind, append-nil p, w.is, part-is, ← append_assoc, k.is, drop-drop x n o, e, k.rest);
      }

-- from there on as a beginning of its own, and what follows put behind it
pub filling_here : {old s o : List ℕ} {first i n before : ℕ} → Filling old first s o i n before → Filling o first s o i n before
filling_here k = record { is = k.is; size = k.size; room = omega (arith, k.room, k.same); same = refl; rest = refl; ends = k.ends }

pub filling_then : {old s o p : List ℕ} {first i n before j m last : ℕ} → Filling old first s o i n before → Filling o first s p j m last → Filling old first s p j m last
filling_then k l = record { is = l.is; size = l.size; room = k.room; same = l.same ∙ k.same; rest = l.rest ∙ k.rest; ends = l.ends }

pub filling_wrote : {old s o p : List ℕ} {first i n before m : ℕ} → Filling old first s o i n before → Wrote o (kept first s) p m → Wrote old (kept first s) p m
unfolding over
filling_wrote k w = record { size = w.size; fits = omega (arith, w.size, k.room); is = w.is ∙ rw k.rest }

pub filling_all : {old s o : List ℕ} {first i n before : ℕ} → Filling old first s o i n before → length s ≤ i → Wrote old (kept first s) o n
unfolding over
filling_all {old} {s} {o} {first} {i} {n} k h =
    let d = drop_of_length-le s h in
    let t : take n o ≡ kept first s = sym (append-nil (take n o)) ∙ rw d at k.is in
    let z : n + 0 ≡ length (kept first s) = rw d at k.size in
    let e : n ≡ length (kept first s) = omega arith in
    record {
      size = e;
      fits = omega (arith, k.room);
      is = sym (take-append-drop n o) ∙ rw (t, e, k.rest);
    }

-- a byte is stored where what stands there doesn't matter
filling_store : {old s o : List ℕ} {first i n before : ℕ} → Filling old first s o i n before → (m v : ℕ) → n ≤ m → m < length (kept first s)
    → Filling old first s (set o m v) i n before
filling_store {old} {s} {o} {first} {i} {n} k m v h l = record {
  is = rw (take-set-le n o m v h) k.is;
  size = k.size;
  room = k.room;
  same = length-set o m v ∙ k.same;
  rest = drop-set-lt (length (kept first s)) o m v l ∙ k.rest;
  ends = k.ends;
}

module _ {old s o : List ℕ} {first i n before : ℕ} (k : Filling old first s o i n before) (h : i < length s) where
  here : drop i s ≡ get_or s i 0 ∷ drop (i + 1) s
  here = rw (add-one i) (drop-cons s i 0 h)

  left : take n o ++ kept before (get_or s i 0 ∷ drop (i + 1) s) ≡ kept first s
  left = rw here at k.is

  count : n + length (kept before (get_or s i 0 ∷ drop (i + 1) s)) ≡ length (kept first s)
  count = rw here at k.size

  ending : Tailed before (get_or s i 0 ∷ drop (i + 1) s)
  ending = rw here at k.ends

  -- there is room for each byte, kept or not
  pub filling_room : n < length (kept first s)
  filling_room = omega (arith, kept-some before (get_or s i 0) (drop (i + 1) s) ending, count)

  -- past a byte that is kept, where it is stored, and past one that is not
  filling_low : get_or s i 0 < 0xC0 → get_or o n 0 ≡ raised before (get_or s i 0) → Filling old first s o (i + 1) (n + 1) (get_or s i 0)
  filling_low l e =
      let b = get_or s i 0 in
      let r = drop (i + 1) s in
      let g = kept_low before b r l in
      let z : n + length (raised before b ∷ kept b r) ≡ length (kept first s) = rw g at count in
      let f : n < length o = omega (arith, filling_room, k.room, k.same) in
      record {
        is = rw (add-one n, take-suc o n 0 f, e) (append_assoc (take n o) (raised before b ∷ []) (kept b r) ∙ rw g at left);
        size = omega (arith, z);
        room = k.room;
        same = k.same;
        rest = k.rest;
        ends = ending.1;
      }

  filling_high : 0xC0 ≤ get_or s i 0 → Filling old first s o (i + 1) n (get_or s i 0)
  filling_high l =
      let g = kept_high before (get_or s i 0) (drop (i + 1) s) l in
      record { is = rw g at left; size = rw g at count; room = k.room; same = k.same; rest = k.rest; ends = ending.1 }

-- a byte is stored, and passed
module _ {old s o : List ℕ} {first i n before : ℕ} (k : Filling old first s o i n before) (h : i < length s) where
  pub filling_byte : Filling old first s (set o n (raised before (get_or s i 0))) (i + 1) (n + bool_byte (ltb (get_or s i 0) 0xC0)) (get_or s i 0)
  filling_byte = go (ltb (get_or s i 0) 0xC0) refl
    where
      v : ℕ
      v = raised before (get_or s i 0)

      f : Filling old first s (set o n v) i n before
      f = filling_store k n v (omega arith) (filling_room k h)

      go : (t : Bool) → ltb (get_or s i 0) 0xC0 ≡ t → Filling old first s (set o n v) (i + 1) (n + bool_byte t) (get_or s i 0)
      go true e =
          let l : n < length o = omega (arith, filling_room k h, k.room, k.same) in
          filling_low f h (ltb-true (get_or s i 0) 0xC0 e) (get_or-set_same o n v 0 l)
      go false e = let z : n + 0 ≡ n = omega arith in rw z (filling_high f h (ltb-false (get_or s i 0) 0xC0 e))

-- the first of all
pub filling-first : (old : List ℕ) (first : ℕ) (s : List ℕ) → Tailed first s → length (kept first s) ≤ length old → 0 < length s
    → Filling old first s (set old 0 (raised first (get_or s 0 0))) 1 (bool_byte (ltb (get_or s 0 0) 0xC0)) (get_or s 0 0)
filling-first old first s t r h = rw (zero-add (bool_byte (ltb (get_or s 0 0) 0xC0))) at (filling_byte (filling_none old first s t r) h)

-- the same of the text from place i on, and a byte more
module _ (old s : List ℕ) (i before : ℕ) (ends : Tailed before (drop i s)) (room : length (kept before (drop i s)) ≤ length old) (h : i < length s) where
  pub left-room : 0 < length old
  left-room = omega (arith, filling_room (filling_none old before (drop i s) ends room) (simp length-drop (omega arith)))

  pub left-first : Filling old before (drop i s) (set old 0 (raised before (get_or s i 0))) 1 (bool_byte (ltb (get_or s i 0) 0xC0)) (get_or s i 0)
  left-first =
      let z : i + 0 ≡ i = omega arith in
      let e : get_or (drop i s) 0 0 ≡ get_or s i 0 = get_or-drop i s 0 0 ∙ rw z in
      rw e at (filling-first old before (drop i s) ends room (simp length-drop (omega arith)))

  module _ (l : i + 1 < length s) where
    one-more : 1 < length (drop i s)
    one-more = simp length-drop (omega arith)

    pub next-room : bool_byte (ltb (get_or s i 0) 0xC0) < length old
    next-room = omega (arith, filling_room left-first one-more)

    pub left-next : Filling old before (drop i s)
        (set (set old 0 (raised before (get_or s i 0))) (bool_byte (ltb (get_or s i 0) 0xC0)) (raised (get_or s i 0) (get_or s (i + 1) 0)))
        2 (bool_byte (ltb (get_or s i 0) 0xC0) + bool_byte (ltb (get_or s (i + 1) 0) 0xC0)) (get_or s (i + 1) 0)
    left-next = rw (get_or-drop i s 1 0) at (filling_byte left-first one-more)

-- two bytes are stored, and passed
module _ {old s o : List ℕ} {first i n before : ℕ} (k : Filling old first s o i n before) (h : i + 2 < length s) where
  next-three : drop i s ≡ get_or s i 0 ∷ get_or s (i + 1) 0 ∷ get_or s (i + 2) 0 ∷ drop (i + 3) s
  next-three =
      let e : i + 1 + 1 ≡ i + 2 = omega arith in
      let f : i + 2 + 1 ≡ i + 3 = omega arith in
      let p : drop i s ≡ get_or s i 0 ∷ drop (i + 1) s = rw (add-one i) (drop-cons s i 0 (omega arith)) in
      let q : drop (i + 1) s ≡ get_or s (i + 1) 0 ∷ drop (i + 2) s = rw (← e, add-one (i + 1)) (drop-cons s (i + 1) 0 (omega arith)) in
      let r : drop (i + 2) s ≡ get_or s (i + 2) 0 ∷ drop (i + 3) s = rw (← f, add-one (i + 2)) (drop-cons s (i + 2) 0 (omega arith)) in
      rw (p, q, r)

  pub filling_room-two : n + 1 < length (kept first s)
  filling_room-two =
      omega (
        arith,
        kept-two before (get_or s i 0) (get_or s (i + 1) 0) (get_or s (i + 2) 0) (drop (i + 3) s) (rw next-three at k.ends),
        rw next-three at k.size,
      )

  pub filling_pair : (x y : ℕ) → x ≡ picked before (get_or s i 0) (get_or s (i + 1) 0) → y ≡ picked (get_or s i 0) (get_or s (i + 1) 0) (get_or s (i + 2) 0)
      → Filling old first s (set (set o n x) (n + 1) y) (i + 2) (n + ran (get_or s i 0) (get_or s (i + 1) 0)) (get_or s (i + 1) 0)
  unfolding picked ran
  filling_pair x y p q = let w : i + 1 + 1 ≡ i + 2 = omega arith in rw w at (go (ltb (get_or s i 0) 0xC0) (ltb (get_or s (i + 1) 0) 0xC0) refl refl)
    where
      b : ℕ
      b = get_or s i 0

      c : ℕ
      c = get_or s (i + 1) 0

      z : List ℕ
      z = set (set o n x) (n + 1) y

      l : n + 1 < length o
      l = omega (arith, filling_room-two, k.room, k.same)

      f : Filling old first s z i n before
      f = filling_store (filling_store k n x (omega arith) (omega (arith, filling_room-two))) (n + 1) y (omega arith) filling_room-two

      gx : get_or z n 0 ≡ x
      gx = get_or-set_other (set o n x) (n + 1) n y 0 (λ (e : n ≡ n + 1). omega arith) ∙ get_or-set_same o n x 0 (omega (arith, l))

      gy : get_or z (n + 1) 0 ≡ y
      gy = get_or-set_same (set o n x) (n + 1) y 0 (rw (length-set o n x) l)

      low : b < 0xC0 → x ≡ raised before b → Filling old first s z (i + 1) (n + 1) b
      low m g = filling_low f (omega (arith, h)) m (gx ∙ g)

      go : (t u : Bool) → ltb b 0xC0 ≡ t → ltb c 0xC0 ≡ u → Filling old first s z (i + 1 + 1) (n + (cond t 1 0 + cond u 1 0)) c
      go true true d e =
          let m : n + 1 + 1 ≡ n + 2 = omega arith in
          rw m at (filling_low (low (ltb-true b 0xC0 d) (p ∙ rw d)) (omega (arith, h)) (ltb-true c 0xC0 e) (gy ∙ q ∙ rw e))
      go true false d e = filling_high (low (ltb-true b 0xC0 d) (p ∙ rw d)) (omega (arith, h)) (ltb-false c 0xC0 e)
      go false true d e = filling_low (filling_high f (omega (arith, h)) (ltb-false b 0xC0 d)) (omega (arith, h)) (ltb-true c 0xC0 e) (gx ∙ p ∙ rw d)
      go false false d e =
          let m : c < 0xC0 = (rw next-three at k.ends).1.0 (ltb-false b 0xC0 d) in
          absurd (omega (arith, ltb-false c 0xC0 e))

-- ---- what pairs of bytes mean, looked up one by one

pub meant-none : (s : List ℕ) (i : ℕ) (x : List ℕ) → Meant s i 0 x
meant-none s i x = record { byte = λ k (h : k < 0). absurd (omega arith) }

pub counted_none : (s : List ℕ) (i : ℕ) (y : List ℕ) → Counted s i 0 y
counted_none s i y = record { size = λ k (h : k < 0). absurd (omega arith) }

-- what holds below k, and of k where it is stored, holds below k + 1
stored : (f : ℕ → ℕ) (x : List ℕ) (k : ℕ) → k < length x → ((j : ℕ) → j < k → get_or x j 0 ≡ f j) → (j : ℕ) → j < k + 1 → get_or (set x k (f k)) j 0 ≡ f j
stored f x k h all j b =
    ⊎_elim (λ (m : j < k). get_or-set_other x k j (f k) 0 (λ (e : j ≡ k). omega arith) ∙ all j m)
    (λ (m : k ≤ j). let e : j ≡ k = omega arith in rw e (get_or-set_same x k (f k) 0 h)) (lt_or_le j k)

pub meant-next : {s x : List ℕ} {i k : ℕ} → Meant s i k x → k < length x
    → Meant s i (k + 1) (set x k (picked (get_or s (i + k - 1) 0) (get_or s (i + k) 0) (get_or s (i + k + 1) 0)))
meant-next {s} {x} {i} {k} p h =
    record { byte = stored (λ (j : ℕ). picked (get_or s (i + j - 1) 0) (get_or s (i + j) 0) (get_or s (i + j + 1) 0)) x k h p.byte }

pub counted_next : {s y : List ℕ} {i k : ℕ} → Counted s i k y → k < length y → Counted s i (k + 1) (set y k (ran (get_or s (i + k) 0) (get_or s (i + k + 1) 0)))
counted_next {s} {y} {i} {k} p h = record { size = stored (λ (j : ℕ). ran (get_or s (i + j) 0) (get_or s (i + j + 1) 0)) y k h p.size }

pub counted-small : {s y : List ℕ} {i m : ℕ} → Counted s i m y → (k : ℕ) → k < m → get_or y k 0 ≤ 2
unfolding ran
counted-small {s} {i = i} p k h = rw (p.size k h) (go (ltb (get_or s (i + k) 0) 0xC0) (ltb (get_or s (i + k + 1) 0) 0xC0))
  where
    go : (t u : Bool) → cond {A = ℕ} t 1 0 + cond {A = ℕ} u 1 0 ≤ 2
    go true true = omega arith
    go true false = omega arith
    go false true = omega arith
    go false false = omega arith

-- how many bytes the text from a place to another has
pub part_long : (i to : ℕ) (s : List ℕ) → to ≤ length s → (k : ℕ) → i + k < to → k < length (drop i (take to s))
part_long i to s fits k l = omega (arith, length-drop i (take to s), length-take-le to s fits)

-- a pair of bytes of the text from place i of s to another is stored as it was looked up
pub filling_paired : {old s o x y : List ℕ} {first to i m n : ℕ} (j : ℕ) → Filling old first (drop i (take to s)) o (2 * j) n (get_or s (i + 2 * j - 1) 0)
    → Meant s i (2 * m) x → Counted s i (2 * m) y → j < m → i + 2 * j + 2 < to → to ≤ length s
    → Filling old first (drop i (take to s)) (set (set o n (get_or x (2 * j) 0)) (n + 1) (get_or x (2 * j + 1) 0)) (2 * j + 2) (n + get_or y (2 * j) 0) (get_or s (i + 2 * j + 1) 0)
filling_paired {s = s} {x = x} {to = to} {i = i} j f p q h l fits =
    let k = i + 2 * j in
    let t = drop i (take to s) in
    let u : i + (2 * j + 1) - 1 ≡ i + 2 * j = omega arith in
    let v : i + (2 * j + 1) ≡ i + 2 * j + 1 = omega arith in
    let w : i + 2 * j + 1 + 1 ≡ i + 2 * j + 2 = omega arith in
    let z : i + (2 * j + 2) ≡ i + 2 * j + 2 = omega arith in
    let a : get_or t (2 * j) 0 ≡ get_or s k 0 = get_or-drop i (take to s) (2 * j) 0 ∙ get_or-take to s k 0 (omega arith) in
    let b : get_or t (2 * j + 1) 0 ≡ get_or s (k + 1) 0 = get_or-drop i (take to s) (2 * j + 1) 0 ∙ rw v (get_or-take to s (k + 1) 0 (omega arith)) in
    let c : get_or t (2 * j + 2) 0 ≡ get_or s (k + 2) 0 = get_or-drop i (take to s) (2 * j + 2) 0 ∙ rw z (get_or-take to s (k + 2) 0 (omega arith)) in
    let first-is : get_or x (2 * j) 0 ≡ picked (get_or s (k - 1) 0) (get_or t (2 * j) 0) (get_or t (2 * j + 1) 0) =
    rw (a, b) (p.byte (2 * j) (omega arith)) in
    let next-is : get_or x (2 * j + 1) 0 ≡ picked (get_or t (2 * j) 0) (get_or t (2 * j + 1) 0) (get_or t (2 * j + 2) 0) =
    rw (a, b, c) (rw (u, v, w) at (p.byte (2 * j + 1) (omega arith))) in
    rw (q.size (2 * j) (omega arith)) (rw (a, b) at (filling_pair f (part_long i to s fits (2 * j + 2) (omega arith)) _ _ first-is next-is))

-- ---- the bytes of a text

one_tailed : (c : ℕ) (s : List ℕ) → Sized c → ((b : ℕ) → b < 0xC0 → Tailed b s) → (before : ℕ) → before < 0xC0 → Tailed before (utf8_one c ++ s)
one_tailed c s (one h) ih before m = rw (utf8_1 h) ((λ k. omega arith), ih c (omega arith))
one_tailed c s (two l h) ih before m = rw (utf8_2 l h) ((λ k. absurd (omega arith)), ((λ k. omega arith), ih (128 + c % 64) (omega arith)))
one_tailed c s (three l h) ih before m =
    rw (utf8_3 l h) ((λ k. absurd (omega arith)), ((λ k. omega arith), ((λ k. omega arith), ih (128 + c % 64) (omega arith))))
one_tailed c s (four l) ih before m =
    rw (utf8_4 l) ((λ k. absurd (omega arith)), ((λ k. omega arith), ((λ k. omega arith), ((λ k. omega arith), ih (128 + c % 64) (omega arith)))))

text_tailed : (t : List ℕ) (before : ℕ) → before < 0xC0 → Tailed before (utf8 t)
text_tailed [] before h = h
text_tailed (c ∷ t) before h = one_tailed c (utf8 t) (sized c) (text_tailed t) before h

one_kept : (c : ℕ) (s t : List ℕ) → Sized c → c < 0x100 → ((b : ℕ) → b < 0xC0 → kept b s ≡ t) → (before : ℕ) → before < 0xC0
    → kept before (utf8_one c ++ s) ≡ c ∷ t
one_kept c s t (one h) l ih before m =
    rw (utf8_1 h) (kept_low before c s (omega arith) ∙ rw (raised-not before c (omega arith), ih c (omega arith)))
one_kept c s t (two k h) l ih before m =
    let a = 192 + c / 64 in
    let b = 128 + c % 64 in
    rw (utf8_2 k h) (kept_high before a (b ∷ s) (omega arith) ∙ kept_low a b s (omega arith) ∙ rw (raised-two c k l, ih b (omega arith)))
one_kept c s t (three k h) l ih before m = absurd (omega arith)
one_kept c s t (four k) l ih before m = absurd (omega arith)

text-kept : (t : List ℕ) → fits_latin1 t ≡ true → (before : ℕ) → before < 0xC0 → kept before (utf8 t) ≡ t
text-kept [] e before h = refl
text-kept (c ∷ t) e before h =
    let p = (and-eq-true_iff (ltb c 0x100) (fits_latin1 t)).0 e in
    one_kept c (utf8 t) t (sized c) (ltb-true c 0x100 p.0) (text-kept t p.1) before h

-- ---- both, of bytes that are well-formed

module _ (s : List ℕ) (ok : is_well (from_utf8 s) ≡ true) where
  pub bytes_tailed : Tailed 0 s
  bytes_tailed = rw (utf8_encode s ok).0 at (text_tailed (text_of s) 0 (omega arith))

  pub bytes-kept : fits_latin1 (text_of s) ≡ true → kept 0 s ≡ text_of s
  bytes-kept e = ap (kept 0) (sym (utf8_encode s ok).0) ∙ text-kept (text_of s) e 0 (omega arith)

  -- so they have room where the text has
  pub kept-room : fits_latin1 (text_of s) ≡ true → (m : ℕ) → length (text_of s) ≤ m → length (kept 0 s) ≤ m
  kept-room e m h = omega (arith, ap length (bytes-kept e))

  -- the first byte is stored
  pub bytes-first : (old : List ℕ) → fits_latin1 (text_of s) ≡ true → length (text_of s) ≤ length old → 0 < length s
      → Filling old 0 s (set old 0 (get_or s 0 0)) 1 (bool_byte (ltb (get_or s 0 0) 0xC0)) (get_or s 0 0)
  bytes-first old e r h = rw (raised-not 0 (get_or s 0 0) (omega arith)) at (filling-first old 0 s bytes_tailed (kept-room e (length old) r) h)

-- of the text that is the first bytes of s
pub part-first : (s : List ℕ) (to : ℕ) → 0 < to → to ≤ length s → is_well (from_utf8 (take to s)) ≡ true → fits_latin1 (text_of (take to s)) ≡ true
    → (old : List ℕ) → length (text_of (take to s)) ≤ length old
    → Filling old 0 (take to s) (set old 0 (get_or s 0 0)) 1 (bool_byte (ltb (get_or s 0 0) 0xC0)) (get_or s 0 0)
part-first s to h l ok e old r = rw (get_or-take to s 0 0 h) at (bytes-first (take to s) ok old e r (omega (arith, length-take-le to s l)))
