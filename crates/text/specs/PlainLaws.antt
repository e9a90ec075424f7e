-- Laws of one-byte text that is ASCII: the test by bits, byte by byte, and what is written for it. Assumes nothing.
use Rattle.std.specs.Prelude.{◌≡◌, refl, Bool, true, false, ◌&&◌, List, [], ◌∷◌, ◌++◌, ℕ, zero, suc, ◌+◌, ◌*◌, ◌-◌, ◌/◌, ◌^◌, ◌≤◌, ◌<◌, eqb, ltb, length, take, drop, get_or}
use Rattle.std.proofs.Common.{sym, ◌∙◌, ap, add-one, arith, lt-ltb, le-ltb, ltb-true, ltb-false, ne_eqb, eqb-true, length-append, length-drop, take-append-drop, take-suc, take-add, take_all, drop-drop, length-take-le}
use Rattle.std.proofs.Math.Seq.{paste, take-take, take-length}
use Rattle.base.specs.NumberLaws.{drop-take}
use Rattle.std.proofs.lemmas.Bool.{eqb-false}
use Rattle.std.specs.Int.Bits.{bit_and, bit_or, or_add_and}
use Rattle.std.specs.List.{fold}
use Rattle.std.specs.Bool.{MatchBool}
use Rattle.std.specs.Str.{IsAscii, IsNotAscii}
use Rattle.std.proofs.Math.Bool.{and-false, and_assoc}
use Rattle.std.proofs.lemmas.Nat.{or_lt, and_le_r, and_le_l, and_block}
use Rattle.std.proofs.lemmas.Nat.Bits.{and_high}
use Rattle.base.specs.Never.{never}
use Rattle.text.specs.Affix.{all_ascii}
use Rattle.text.specs.Plain.{is_copy, Copied}
use Rattle.base.specs.Number.{le, le_at}
use Rattle.base.specs.NumberLaws.{Bytes, bytes-part, le_at-is}
use Rattle.base.specs.Output.{over, Wrote}
use Rattle.base.specs.OutputLaws.{drop-over, wrote-length, wrote_none, wrote-paste, wrote_as, wrote_count}
use Rattle.text.specs.Name.{decoded, base}
use Rattle.text.specs.Utf8.{utf8_one, utf8}
use Rattle.text.specs.Utf8Laws.{Sized, one, two, three, four, sized, utf8_1, utf8_2, utf8_3, utf8_4, utf8-ascii}

-- ---- the test

-- the bits of two numbers together are below 128 where both are
pub or_ascii : (a b : ℕ) → ltb (bit_or a b) 128 ≡ (ltb a 128 && ltb b 128)
or_ascii a b = go (ltb a 128) (ltb b 128) refl refl
  where
    go : (x y : Bool) → ltb a 128 ≡ x → ltb b 128 ≡ y → ltb (bit_or a b) 128 ≡ (x && y)
    go true true p q = lt-ltb (bit_or a b) 128 (or_lt 7 a b (ltb-true a 128 p) (ltb-true b 128 q))
    go false y p q = le-ltb (bit_or a b) 128 (omega (arith, or_add_and a b, and_le_r a b, ltb-false a 128 p))
    go true false p q = le-ltb (bit_or a b) 128 (omega (arith, or_add_and a b, and_le_l a b, ltb-false b 128 q))

-- two parts are ASCII where each is
pub ascii-both : (s t : List ℕ) → all_ascii (s ++ t) ≡ (all_ascii s && all_ascii t)
ascii-both [] t = refl
ascii-both (c ∷ s) t = rw (ascii-both s t) (go (ltb c 128) (all_ascii s) (all_ascii t))
  where
    go : (a b c : Bool) → (a && (b && c)) ≡ ((a && b) && c)
    go true b c = refl
    go false b c = refl

and-true : (b : Bool) → (b && true) ≡ b
and-true true = refl
and-true false = refl

ascii-last : (s : List ℕ) (x : ℕ) → all_ascii (s ++ x ∷ []) ≡ (all_ascii s && ltb x 128)
ascii-last s x = ascii-both s (x ∷ []) ∙ rw (and-true (ltb x 128))

-- one byte more, or one unit
pub ascii-next : (s : List ℕ) (i all : ℕ) → i < length s → ltb all 128 ≡ all_ascii (take i s) → ltb (bit_or all (get_or s i 0)) 128 ≡ all_ascii (take (i + 1) s)
ascii-next s i all h e = or_ascii all (get_or s i 0) ∙ rw (add-one i, take-suc s i 0 h, ascii-last (take i s) (get_or s i 0), e)

-- of the bits of all bytes together
pub fold-ascii : (s : List ℕ) (a : ℕ) → ltb (fold bit_or a s) 128 ≡ (ltb a 128 && all_ascii s)
fold-ascii [] a = sym (and-true (ltb a 128))
fold-ascii (x ∷ s) a = fold-ascii s (bit_or a x) ∙ rw (or_ascii a x) (and_assoc (ltb a 128) (ltb x 128) (all_ascii s))

-- by the library's test
ascii-yes : (s : List ℕ) → IsAscii s → all_ascii s ≡ true
ascii-yes [] a = refl
ascii-yes (c ∷ s) a = rw (lt-ltb c 128 (a 0)) (ascii-yes s (λ i. a (suc i)))

ascii_no : (s : List ℕ) (i : ℕ) → 128 ≤ get_or s i 0 → all_ascii s ≡ false
ascii_no [] i h = absurd (omega arith)
ascii_no (c ∷ s) zero h = rw (le-ltb c 128 h)
ascii_no (c ∷ s) (suc i) h = rw (ascii_no s i h, and-false (ltb c 128))

pub ascii_told : (s : List ℕ) (b : Bool) → MatchBool b (IsAscii s) (IsNotAscii s) → b ≡ all_ascii s
ascii_told s true a = sym (ascii-yes s a)
ascii_told s false a = sym (ascii_no s a.0 a.1)

-- ---- the test, a word of bytes at once

-- the highest bit of each of n bytes
abbrev pub marks : ℕ → ℕ
marks zero = 0
marks (suc n) = marks n * 256 + 128

-- a byte is ASCII where its highest bit isn't set
low_bit : (b : ℕ) → b < 128 → bit_and b 128 ≡ 0
low_bit b h = let e : b / 128 ≡ 0 = omega arith in and_high b 1 7 ∙ rw e

high_bit : (b : ℕ) → 128 ≤ b → b < 256 → bit_and b 128 ≡ 128
high_bit b l h = let e : b / 128 ≡ 1 = omega arith in and_high b 1 7 ∙ rw e

byte-ascii : (b m : ℕ) → b < 256 → eqb (m * 256 + bit_and b 128) 0 ≡ (ltb b 128 && eqb m 0)
byte-ascii b m h = go (ltb b 128) (eqb m 0) refl refl
  where
    some : (x : ℕ) → (m ≡ 0 → ⊥) → m * 256 + x ≡ 0 → ⊥
    some x z e = z (omega arith)

    go : (x y : Bool) → ltb b 128 ≡ x → eqb m 0 ≡ y → eqb (m * 256 + bit_and b 128) 0 ≡ (x && y)
    go true true p q = rw (low_bit b (ltb-true b 128 p), eqb-true m 0 q)
    go true false p q = ne_eqb _ _ (some (bit_and b 128) (eqb-false m 0 q))
    go false y p q = rw (high_bit b (ltb-false b 128 p) h) (ne_eqb (m * 256 + 128) 0 (λ (e : m * 256 + 128 ≡ 0). omega arith))

-- so are bytes where their highest bits aren't set in their number
marks-ascii : (l : List ℕ) → Bytes l → eqb (bit_and (le l) (marks (length l))) 0 ≡ all_ascii l
marks-ascii [] b = refl
marks-ascii (x ∷ l) b =
    let e : x + 256 * le l ≡ le l * 2 ^ 8 + x = omega arith in
    rw (e, and_block 8 (le l) (marks (length l)) x 128 (b zero) (omega arith))
    (byte-ascii x (bit_and (le l) (marks (length l))) (b zero) ∙ rw (marks-ascii l (λ i. b (suc i))))

-- the k bytes from a place on
pub word-ascii : (k : ℕ) (s : List ℕ) (i : ℕ) → Bytes s → i + k ≤ length s → eqb (bit_and (le_at k s i) (marks k)) 0 ≡ all_ascii (take k (drop i s))
word-ascii k s i b h =
    let e : length (take k (drop i s)) ≡ k = length-take-le k (drop i s) (simp length-drop (omega arith)) in
    rw (le_at-is k s i) (rw e at (marks-ascii (take k (drop i s)) (bytes-part k i s b)))

-- k bytes more, by whether they are
pub ascii_more : (k : ℕ) (s : List ℕ) (i : ℕ) → all_ascii (take (i + k) s) ≡ (all_ascii (take i s) && all_ascii (take k (drop i s)))
ascii_more k s i = ap all_ascii (take-add i k s) ∙ ascii-both (take i s) (take k (drop i s))

-- sixteen bytes are twice eight
pub ascii-pair : (s : List ℕ) (i : ℕ) → all_ascii (take 16 (drop i s)) ≡ (all_ascii (take 8 (drop i s)) && all_ascii (take 8 (drop (i + 8) s)))
ascii-pair s i = rw (← drop-drop 8 i s) (ascii_more 8 (drop i s) 8)

-- k bytes that are not
pub ascii-not : (k : ℕ) (s : List ℕ) (i : ℕ) → all_ascii (take k (drop i s)) ≡ false → all_ascii s ≡ false
ascii-not k s i f =
    rw (← take-append-drop i s, ascii-both (take i s) (drop i s), ← take-append-drop k (drop i s), ascii-both (take k (drop i s)) (drop k (drop i s)), f)
    (and-false (all_ascii (take i s)))

-- the last k, some of which may be among those before
pub ascii_cover : (k : ℕ) (s : List ℕ) (i last : ℕ) → last + k ≡ length s → last ≤ i → (all_ascii (take i s) && all_ascii (take k (drop last s))) ≡ all_ascii s
ascii_cover k s i last e h =
    let x = take last s in
    let y = take (i - last) (drop last s) in
    let z = drop (i - last) (drop last s) in
    let short : length (drop last s) ≤ k = simp length-drop (omega arith) in
    let d : i ≡ last + (i - last) = omega arith in
    let f : all_ascii (take i s) ≡ (all_ascii x && all_ascii y) = ap (λ (k : ℕ). all_ascii (take k s)) d ∙ ap all_ascii (take-add last (i - last) s) ∙ ascii-both x y in
    let g : all_ascii (drop last s) ≡ (all_ascii y && all_ascii z) = ap all_ascii (sym (take-append-drop (i - last) (drop last s))) ∙ ascii-both y z in
    let t : all_ascii s ≡ (all_ascii x && all_ascii (drop last s)) = ap all_ascii (sym (take-append-drop last s)) ∙ ascii-both x (drop last s) in
    rw (take_all k (drop last s) short, f, t, g) (go (all_ascii x) (all_ascii y) (all_ascii z))
  where
    go : (a b d : Bool) → ((a && b) && (b && d)) ≡ (a && (b && d))
    go true true d = refl
    go true false d = refl
    go false b d = refl

-- where those before are
pub ascii_end : (k : ℕ) (s : List ℕ) (i last : ℕ) → last + k ≡ length s → last ≤ i → all_ascii (take i s) ≡ true → all_ascii (take k (drop last s)) ≡ all_ascii s
ascii_end k s i last e h f = rw f at (ascii_cover k s i last e h)

-- k more, some of which may be among those before
ascii_join : (k : ℕ) (s : List ℕ) (i at : ℕ) → at ≤ i → i ≤ at + k → at + k ≤ length s
    → (all_ascii (take i s) && all_ascii (take k (drop at s))) ≡ all_ascii (take (at + k) s)
ascii_join k s i at l m h =
    let x = take (at + k) s in
    let e : at + k ≡ length x = sym (length-take-le (at + k) s h) in
    let front : take i x ≡ take i s = take-take i (at + k) s m in
    let j : at + k - at ≡ k = omega arith in
    let back : take k (drop at x) ≡ take k (drop at s) = rw (drop-take at (at + k) s, j) (take-take k k (drop at s) (omega arith)) in
    rw (front, back) at (ascii_cover k x i at e l)

-- all of them, by k at each of four places, the first and the last k among them
pub ascii_four : (k : ℕ) (s : List ℕ) (a b last : ℕ) → a ≤ k → a ≤ b → b ≤ a + k → b ≤ last → last ≤ b + k → last + k ≡ length s
    → (((all_ascii (take k s) && all_ascii (take k (drop a s))) && all_ascii (take k (drop b s))) && all_ascii (take k (drop last s))) ≡ all_ascii s
ascii_four k s a b last f g h i j e =
    rw (ascii_join k s k a f (omega arith) (omega arith), ascii_join k s (a + k) b h (omega arith) (omega arith)) (ascii_cover k s (b + k) last e j)

-- ---- what is written

-- all of x was stored, by k at each of four places, the first and the last k among them
pub wrote_four : (k : ℕ) (x s : List ℕ) (a b last : ℕ) → a ≤ k → a ≤ b → b ≤ a + k → b ≤ last → last ≤ b + k → last + k ≡ length x → length x ≤ length s
    → Wrote s x (paste (paste (paste (paste s 0 x k) a (drop a x) k) b (drop b x) k) last (drop last x) k) (length x)
wrote_four k x s a b last f g h i j e r =
    let p = wrote-paste x 0 k (wrote_none s) (omega arith) (omega arith) (omega arith) (omega arith) in
    let q = wrote-paste x a k p (omega arith) (omega arith) (omega arith) (omega arith) in
    let t = wrote-paste x b k q h (omega arith) (omega arith) (omega arith) in
    let v = wrote-paste x last k t j (omega arith) (omega arith) (omega arith) in
    wrote_count (wrote_as v (rw (e, take-length))) e

-- ASCII is its own UTF-8
pub plain-bytes : (part : List ℕ) → all_ascii part ≡ true → utf8 (base false part) ≡ part
unfolding decoded
plain-bytes part a = utf8-ascii part a

-- a text has at least a byte for each scalar value
utf8_one-some : (c : ℕ) → 1 ≤ length (utf8_one c)
utf8_one-some c = go (sized c)
  where
    go : Sized c → 1 ≤ length (utf8_one c)
    go (one h) = omega (arith, ap length (utf8_1 h))
    go (two l h) = omega (arith, ap length (utf8_2 l h))
    go (three l h) = omega (arith, ap length (utf8_3 l h))
    go (four l) = omega (arith, ap length (utf8_4 l))

utf8-some : (t : List ℕ) → length t ≤ length (utf8 t)
utf8-some [] = omega arith
utf8-some (c ∷ t) = simp length-append (omega (arith, utf8_one-some c, utf8-some t))

-- so bytes have room where their UTF-8 has
pub plain-room : (part : List ℕ) → length part ≤ length (utf8 (base false part))
unfolding decoded
plain-room part = utf8-some part

-- what is written over something shorter is as if that had not been written
pub beyond : (s a : List ℕ) (n : ℕ) → length a ≤ n → drop n (over s a) ≡ drop n s
beyond s a n h =
    let e : length a + (n - length a) ≡ n = omega arith in
    rw (← e, ← drop-drop (n - length a) (length a) (over s a), ← drop-drop (n - length a) (length a) s, drop-over s a (length a) refl)

pub wrote-over : {s a m b o : List ℕ} {k n : ℕ} → Wrote s a m k → Wrote m b o n → length a ≤ length b → Wrote s b o n
unfolding over
wrote-over {s} {a} {m} {b} {o} {k} {n} v w h = record {
  size = w.size;
  fits = omega (arith, w.fits, wrote-length v);
  is = w.is ∙ rw v.is (ap (λ (l : List ℕ). b ++ l) (beyond s a (length b) h));
}

-- a base of one-byte text, by whether it is ASCII
module _ {wide : Bool} (part : List ℕ) (n : wide ≡ false) where
  pub plain_fits : (room : ℕ) → length (utf8 (base wide part)) ≤ room → length part ≤ room
  plain_fits room h = omega (arith, plain-room part, rw n at h)

  module _ {t : Bool} (e : t ≡ all_ascii part) (y : t ≡ true) where
    pub plain-length : length part ≡ length (utf8 (base wide part))
    plain-length = rw (n, plain-bytes part (sym e ∙ y))

-- nothing is copied of wide text, and one-byte text as it stands
pub copied_none : {wide : Bool} (part : List ℕ) {s : List ℕ} → wide ≡ true → Copied wide part s s false
copied_none {wide} part {s} y = record { is = rw y; kept = λ _. refl; wrote = λ n. never (cc) }

pub copied_some : {wide : Bool} (part : List ℕ) {s m : List ℕ} {r : Bool} → wide ≡ false → r ≡ all_ascii part → Wrote s part m (length part) → Copied wide part s m r
copied_some {wide} part {s} {m} {r} n e w = record { is = rw n e; kept = λ y. never (cc); wrote = λ _. w }

-- what is its own UTF-8 is the base, and over what was copied the base, or more, is as if it had not been
module _ {wide : Bool} (part : List ℕ) {s m : List ℕ} {r : Bool} (c : Copied wide part s m r) where
  pub copied_base : r ≡ true → Wrote s (utf8 (base wide part)) m (length part)
  copied_base y = go wide refl (sym c.is ∙ y)
    where
      go : (w : Bool) → wide ≡ w → is_copy w part ≡ true → Wrote s (utf8 (base wide part)) m (length part)
      go false n e = rw (n, plain-bytes part e) (c.wrote n)
      go true n e = never (cc)

  pub copied_then : {b o : List ℕ} {k : ℕ} → Wrote m b o k → length (utf8 (base wide part)) ≤ length b → Wrote s b o k
  copied_then {b} {o} {k} w h = go wide refl
    where
      go : (v : Bool) → wide ≡ v → Wrote s b o k
      go false n = wrote-over (c.wrote n) w (omega (arith, plain-room part, rw n at h))
      go true n = rw (c.kept n) at w
