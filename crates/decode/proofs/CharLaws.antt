-- Laws of UTF-8 read one character at a time: the table of RFC 3629 gives what decoding gives. Assumes nothing.
use Rattle.std.specs.Prelude.{◌≡◌, refl, Bool, false, List, [], ◌∷◌, ◌++◌, ℕ, ◌+◌, ◌-◌, ◌/◌, ◌%◌, ◌≤◌, ◌<◌, leb, length, get_or, drop, Option, None, Some}
use Rattle.std.proofs.Common.{sym, ◌∙◌, inl, inr, leb-true}
use Rattle.std.proofs.Math.Path.{ap}
use Rattle.std.proofs.Math.Bool.{true}
use Rattle.std.proofs.Math.Logic.{⊎_elim}
use native.Mathlib.Omega.{arith}
use Rattle.base.specs.Never.{never}
use Rattle.base.specs.Choose.{choose, lt_or_le}
use Rattle.text.specs.Utf16.{ill, more, Scalar}
use Rattle.text.specs.Utf8.{utf8_one, from_utf8}
use Rattle.text.specs.Utf8Laws.{utf8_1, utf8_2, utf8_3, utf8_4, Sized, one, two, three, four, sized, utf8-read}
use Rattle.decode.specs.declared.chars.Char.{Char}
use Rattle.decode.specs.ReadLaws.{First, empty, starts, broken, first}
use Rattle.decode.specs.Chars.{Range, is_two, is_three, is_four, joined, char_by, char_of, a_char}
use Rattle.decode.specs.TableLaws.{Second}
use Rattle.decode.proofs.TableLaws.{inside, second-true, two_is, three-is, four_is, by_one, by_two, by_three, by-four}
pub use Rattle.decode.specs.CharLaws.{Starts}

-- a scalar value's bytes are in the table
module _ (c : ℕ) (s : List ℕ) where
  encoded_1 : c < 0x80 → char_of (utf8_one c ++ s) ≡ a_char c 1
  unfolding char_of
  encoded_1 h = rw (utf8_1 h) (by_one c _ _ _ (omega arith))

  encoded_2 : 0x80 ≤ c → c < 0x800 → char_of (utf8_one c ++ s) ≡ a_char c 2
  unfolding char_of is_two
  encoded_2 l h =
      let a = 192 + c / 64 in
      let b = 128 + c % 64 in
      let t : is_two a b ≡ true = rw (inside 0xC2 0xDF a (omega arith) (omega arith), inside 0x80 0xBF b (omega arith) (omega arith)) in
      let v : joined (a - 0xC0) b ≡ c = omega arith in
      rw (utf8_2 l h) (by_two a b _ _ (omega arith) t ∙ ap (λ (x : ℕ). a_char x 2) v)

  encoded_3 : 0x800 ≤ c → c < 0x10000 → Scalar c → char_of (utf8_one c ++ s) ≡ a_char c 3
  unfolding char_of is_three
  encoded_3 l h z =
      let a = 224 + c / 4096 in
      let b = 128 + c / 64 % 64 in
      let d = 128 + c % 64 in
      let k : Second a b = record {
        low = omega arith;
        high = omega arith;
        after_e0 = λ i. omega arith;
        after_ed = λ i. ⊎_elim (λ w. omega arith) (λ w. omega arith) z;
        after_f0 = λ i. omega arith;
        after_f4 = λ i. omega arith;
      } in
      let t : is_three a b d ≡ true =
      rw (inside 0xE0 0xEF a (omega arith) (omega arith), second-true a b k, inside 0x80 0xBF d (omega arith) (omega arith)) in
      let v : joined (joined (a - 0xE0) b) d ≡ c = omega arith in
      rw (utf8_3 l h) (by_three a b d _ (omega arith) t ∙ ap (λ (x : ℕ). a_char x 3) v)

  encoded_4 : 0x10000 ≤ c → c < 0x110000 → char_of (utf8_one c ++ s) ≡ a_char c 4
  unfolding char_of is_four
  encoded_4 l h =
      let a = 240 + c / 262144 in
      let b = 128 + c / 4096 % 64 in
      let d = 128 + c / 64 % 64 in
      let f = 128 + c % 64 in
      let k : Second a b = record {
        low = omega arith;
        high = omega arith;
        after_e0 = λ i. omega arith;
        after_ed = λ i. omega arith;
        after_f0 = λ i. omega arith;
        after_f4 = λ i. omega arith;
      } in
      let t : is_four a b d f ≡ true =
      rw (
        inside 0xF0 0xF4 a (omega arith) (omega arith),
        second-true a b k,
        inside 0x80 0xBF d (omega arith) (omega arith),
        inside 0x80 0xBF f (omega arith) (omega arith),
      ) in
      let i : joined (a - 0xF0) b ≡ c / 4096 = omega arith in
      let j : joined (c / 4096) d ≡ c / 64 = omega arith in
      let v : joined (joined (joined (a - 0xF0) b) d) f ≡ c = rw (i, j) (omega arith) in
      rw (utf8_4 l) (by-four a b d f (omega arith) t ∙ ap (λ (x : ℕ). a_char x 4) v)

pub char-encoded : (c : ℕ) (s : List ℕ) → Scalar c → char_of (utf8_one c ++ s) ≡ a_char c (length (utf8_one c))
char-encoded c s z = go (sized c)
  where
    go : Sized c → char_of (utf8_one c ++ s) ≡ a_char c (length (utf8_one c))
    go (one h) = encoded_1 c s h ∙ ap (a_char c) (sym (ap length (utf8_1 h)))
    go (two l h) = encoded_2 c s l h ∙ ap (a_char c) (sym (ap length (utf8_2 l h)))
    go (three l h) = encoded_3 c s l h z ∙ ap (a_char c) (sym (ap length (utf8_3 l h)))
    go (four l) =
        let h : c < 0x110000 = ⊎_elim (λ w. omega arith) (λ w. omega arith) z in
        encoded_4 c s l h ∙ ap (a_char c) (sym (ap length (utf8_4 l)))

back_2 : (a : ℕ) (s : List ℕ) → is_two a (get_or s 0 0) ≡ true → Starts (a ∷ s) (joined (a - 0xC0) (get_or s 0 0)) 2
back_2 a [] e = let h = two_is a 0 e in absurd (omega arith)
back_2 a (b ∷ s) e =
    let h = two_is a b e in
    let x = joined (a - 0xC0) b in
    let u = utf8_2 {c = x} (omega arith) (omega arith) in
    let p : 192 + x / 64 ≡ a = omega arith in
    let q : 128 + x % 64 ≡ b = omega arith in
    record { scalar = inl (omega arith); size = ap length u; is = rw (u, p, q) }

module _ (a b c : ℕ) (h : Range 0xE0 0xEF a) (k : Second a b) (m : Range 0x80 0xBF c) where
  abbrev value_3 : ℕ
  value_3 = joined (joined (a - 0xE0) b) c

  least_3 : 0x800 ≤ value_3
  least_3 = ⊎_elim (λ w. omega (arith, k.after_e0 (omega arith))) (λ w. omega arith) (lt_or_le a 0xE1)

  scalar_3 : Scalar value_3
  scalar_3 =
      ⊎_elim (λ w. inl (omega arith))
      (λ w. ⊎_elim (λ v. inl (omega (arith, k.after_ed (omega arith)))) (λ v. inr (omega arith, omega arith)) (lt_or_le a 0xEE))
      (lt_or_le a 0xED)

module _ (a b c d : ℕ) (h : Range 0xF0 0xF4 a) (k : Second a b) (m : Range 0x80 0xBF c) (n : Range 0x80 0xBF d) where
  abbrev value_4 : ℕ
  value_4 = joined (joined (joined (a - 0xF0) b) c) d

  least_4 : 0x10000 ≤ value_4
  least_4 = ⊎_elim (λ w. omega (arith, k.after_f0 (omega arith))) (λ w. omega arith) (lt_or_le a 0xF1)

  most_4 : value_4 ≤ 0x10FFFF
  most_4 = ⊎_elim (λ w. omega arith) (λ w. omega (arith, k.after_f4 (omega arith))) (lt_or_le a 0xF4)

back_3 : (a : ℕ) (s : List ℕ) → is_three a (get_or s 0 0) (get_or s 1 0) ≡ true → Starts (a ∷ s) (joined (joined (a - 0xE0) (get_or s 0 0)) (get_or s 1 0)) 3
back_3 a [] e = let h = three-is a 0 0 e in absurd (omega arith)
back_3 a (b ∷ []) e = let h = three-is a b 0 e in absurd (omega arith)
back_3 a (b ∷ c ∷ s) e =
    let h = three-is a b c e in
    let x = joined (joined (a - 0xE0) b) c in
    let l = least_3 a b c h.0 h.1 h.2 in
    let u = utf8_3 {c = x} l (omega arith) in
    let o : 224 + x / 4096 ≡ a = omega arith in
    let p : 128 + x / 64 % 64 ≡ b = omega arith in
    let q : 128 + x % 64 ≡ c = omega arith in
    record { scalar = scalar_3 a b c h.0 h.1 h.2; size = ap length u; is = rw (u, o, p, q) }

back_4 : (a : ℕ) (s : List ℕ) → is_four a (get_or s 0 0) (get_or s 1 0) (get_or s 2 0) ≡ true
    → Starts (a ∷ s) (joined (joined (joined (a - 0xF0) (get_or s 0 0)) (get_or s 1 0)) (get_or s 2 0)) 4
back_4 a [] e = let h = four_is a 0 0 0 e in absurd (omega arith)
back_4 a (b ∷ []) e = let h = four_is a b 0 0 e in absurd (omega arith)
back_4 a (b ∷ c ∷ []) e = let h = four_is a b c 0 e in absurd (omega arith)
back_4 a (b ∷ c ∷ d ∷ s) e =
    let h = four_is a b c d e in
    let x = joined (joined (joined (a - 0xF0) b) c) d in
    let l = least_4 a b c d h.0 h.1 h.2 h.3 in
    let g = most_4 a b c d h.0 h.1 h.2 h.3 in
    let u = utf8_4 {c = x} l in
    let o : 240 + x / 262144 ≡ a = omega arith in
    let p : 128 + x / 4096 % 64 ≡ b = omega arith in
    let q : 128 + x / 64 % 64 ≡ c = omega arith in
    let r : 128 + x % 64 ≡ d = omega arith in
    record { scalar = inr (omega arith, g); size = ap length u; is = rw (u, o, p, q, r) }

-- what char_of says, of a character that starts with byte a
abbrev Says : List ℕ → Option Char → Type 0
Says s (Some c) = Starts s c.value c.size
Says s None = Unit {0}

says : (s : List ℕ) → Says s (char_of s)
unfolding char_of char_by
says [] = tt
says (a ∷ s) = go (leb a 0x7F) refl (is_two a b) refl (is_three a b c) refl (is_four a b c d) refl
  where
    b : ℕ
    b = get_or s 0 0

    c : ℕ
    c = get_or s 1 0

    d : ℕ
    d = get_or s 2 0

    go : (p : Bool) → leb a 0x7F ≡ p → (q : Bool) → is_two a b ≡ q → (r : Bool) → is_three a b c ≡ r → (t : Bool) → is_four a b c d ≡ t
        → Says (a ∷ s)
        (choose p (λ _. a_char a 1)
        (λ _. choose q (λ _. a_char (joined (a - 0xC0) b) 2)
        (λ _. choose r (λ _. a_char (joined (joined (a - 0xE0) b) c) 3)
        (λ _. choose t (λ _. a_char (joined (joined (joined (a - 0xF0) b) c) d) 4) (λ _. None)))))
    go true e q f r g t h = let u = utf8_1 {c = a} (omega (arith, leb-true a 0x7F e)) in record { scalar = inl (omega (arith, leb-true a 0x7F e)); size = ap length u; is = rw u }
    go false e true f r g t h = back_2 a s f
    go false e false f true g t h = back_3 a s g
    go false e false f false g true h = back_4 a s h
    go false e false f false g false h = tt

pub char-starts : (s : List ℕ) {c : Char} → char_of s ≡ Some c → Starts s c.value c.size
char-starts s e = rw e at (says s)

-- so what bytes mean shows one character at a time
pub char-more : (s : List ℕ) {c : Char} → char_of s ≡ Some c → from_utf8 s ≡ more c.value (from_utf8 (drop c.size s))
char-more s {c} e =
    let z = char-starts s e in
    ap from_utf8 (sym z.is) ∙ utf8-read c.value (drop c.size s) z.scalar

pub char-ill : (s : List ℕ) → 0 < length s → char_of s ≡ None → from_utf8 s ≡ ill
char-ill s l e = go (first s)
  where
    go : First s → from_utf8 s ≡ ill
    go (empty q) = absurd (omega (arith, ap length q))
    go (starts c r q z) = let f = char-encoded c r z in let g = ap char_of q in never (cc)
    go (broken q) = q
