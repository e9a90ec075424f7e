-- What RFC 3629's grammar takes is what decodes. Assumes nothing.
use Rattle.std.specs.Prelude.{◌≡◌, refl, List, [], ◌∷◌, ◌++◌, ◌⊎◌, ℕ, zero, suc, ◌+◌, ◌/◌, ◌%◌, ◌≤◌, ◌<◌, length, get_or}
use Rattle.std.proofs.Common.{sym, ◌∙◌, inl, inr, ⊎_elim, arith, length-append, ne_eqb}
use Rattle.std.proofs.Math.Path.{ap}
use Rattle.std.proofs.Math.Bool.{true}
use Rattle.base.specs.Never.{never}
use Rattle.base.specs.Choose.{lt_or_le}
use Rattle.text.specs.Utf16.{is_well, Scalar}
use Rattle.text.specs.Utf16Cases.{is_well-more}
use Rattle.text.specs.Utf8.{utf8_one, from_utf8, from_utf8_on}
use Rattle.text.specs.Utf8Laws.{utf8_1, utf8_2, utf8_3, utf8_4, Sized, one, two, three, four, sized, utf8-read}
use Rattle.decode.specs.ReadLaws.{First, empty, starts, broken, first, utf8_one-some}
use Rattle.decode.specs.Chars.{Range, second, is_two, is_three, is_four, char_of}
use Rattle.decode.proofs.TableLaws.{inside, by_one, by_two, by_three, by-four}
use Rattle.decode.proofs.CharLaws.{char-more}
use Rattle.decode.specs.Grammar.{Tail, Utf8Char, one_00, two_C2, three_E0, three_E1, three_ED, three_EE, four_F0, four_F1, four_F4, Utf8Octets, none, then}

-- ---- what the grammar takes is well-formed

-- a row of three or four bytes, whose second byte the table takes
module _ (a b c : ℕ) (r : List ℕ) (q : second a b ≡ true) (t : Tail c) where
  row_3 : Range 0xE0 0xEF a → is_well (from_utf8 (a ∷ b ∷ c ∷ r)) ≡ is_well (from_utf8 r)
  unfolding char_of is_three
  row_3 h =
      let e : is_three a b c ≡ true = rw (inside 0xE0 0xEF a h.0 h.1, q, inside 0x80 0xBF c t.0 t.1) in
      ap is_well (char-more (a ∷ b ∷ c ∷ r) (by_three a b c (get_or r 0 0) (omega arith) e)) ∙ is_well-more _ (from_utf8 r)

  row_4 : Range 0xF0 0xF4 a → (d : ℕ) → Tail d → is_well (from_utf8 (a ∷ b ∷ c ∷ d ∷ r)) ≡ is_well (from_utf8 r)
  unfolding char_of is_four
  row_4 h d u =
      let e : is_four a b c d ≡ true = rw (inside 0xF0 0xF4 a h.0 h.1, q, inside 0x80 0xBF c t.0 t.1, inside 0x80 0xBF d u.0 u.1) in
      ap is_well (char-more (a ∷ b ∷ c ∷ d ∷ r) (by-four a b c d (omega arith) e)) ∙ is_well-more _ (from_utf8 r)

row_1 : (a : ℕ) (r : List ℕ) → a ≤ 0x7F → is_well (from_utf8 (a ∷ r)) ≡ is_well (from_utf8 r)
unfolding char_of
row_1 a r h = ap is_well (char-more (a ∷ r) (by_one a _ _ _ h)) ∙ is_well-more _ (from_utf8 r)

row_2 : (a b : ℕ) (r : List ℕ) → Range 0xC2 0xDF a → Tail b → is_well (from_utf8 (a ∷ b ∷ r)) ≡ is_well (from_utf8 r)
unfolding char_of is_two
row_2 a b r h t =
    let e : is_two a b ≡ true = rw (inside 0xC2 0xDF a h.0 h.1, inside 0x80 0xBF b t.0 t.1) in
    ap is_well (char-more (a ∷ b ∷ r) (by_two a b _ _ (omega arith) e)) ∙ is_well-more _ (from_utf8 r)

-- the first bytes after which any tail may be second
abbrev Plain : ℕ → Type 0
Plain a = (a ≡ 0xE0 → ⊥) × (a ≡ 0xED → ⊥) × (a ≡ 0xF0 → ⊥) × (a ≡ 0xF4 → ⊥)

plain : (a b : ℕ) → Plain a → Tail b → second a b ≡ true
unfolding second
plain a b k t = rw (ne_eqb a 0xE0 k.0, ne_eqb a 0xED k.1, ne_eqb a 0xF0 k.2, ne_eqb a 0xF4 k.3) (inside 0x80 0xBF b t.0 t.1)

plain_E1 : (a : ℕ) → Range 0xE1 0xEC a → Plain a
plain_E1 a h = (λ i. omega arith, λ i. omega arith, λ i. omega arith, λ i. omega arith)

plain_EE : (a : ℕ) → Range 0xEE 0xEF a → Plain a
plain_EE a h = (λ i. omega arith, λ i. omega arith, λ i. omega arith, λ i. omega arith)

plain_F1 : (a : ℕ) → Range 0xF1 0xF3 a → Plain a
plain_F1 a h = (λ i. omega arith, λ i. omega arith, λ i. omega arith, λ i. omega arith)

row : {a : List ℕ} → Utf8Char a → (r : List ℕ) → is_well (from_utf8 (a ++ r)) ≡ is_well (from_utf8 r)
unfolding second
row (one_00 {a} h) r = row_1 a r h
row (two_C2 {a} {b} h t) r = row_2 a b r h t
row (three_E0 {b} {c} p t) r = row_3 0xE0 b c r (inside 0xA0 0xBF b p.0 p.1) t (omega arith, omega arith)
row (three_E1 {a} {b} {c} h s t) r = row_3 a b c r (plain a b (plain_E1 a h) s) t (omega arith, omega arith)
row (three_ED {b} {c} p t) r = row_3 0xED b c r (inside 0x80 0x9F b p.0 p.1) t (omega arith, omega arith)
row (three_EE {a} {b} {c} h s t) r = row_3 a b c r (plain a b (plain_EE a h) s) t (omega arith, omega arith)
row (four_F0 {b} {c} {d} p t u) r = row_4 0xF0 b c r (inside 0x90 0xBF b p.0 p.1) t (omega arith, omega arith) d u
row (four_F1 {a} {b} {c} {d} h s t u) r = row_4 a b c r (plain a b (plain_F1 a h) s) t (omega arith, omega arith) d u
row (four_F4 {b} {c} {d} p t u) r = row_4 0xF4 b c r (inside 0x80 0x8F b p.0 p.1) t (omega arith, omega arith) d u

pub octets-well : {s : List ℕ} → Utf8Octets s → is_well (from_utf8 s) ≡ true
unfolding from_utf8 from_utf8_on
octets-well none = refl
octets-well (then {a} {r} {s} p q e) = rw (← e) (row p r ∙ octets-well q)

-- ---- what is well-formed is in the grammar

low-six : (x : ℕ) → Tail (128 + x % 64)
low-six x = (omega arith, omega arith)

module _ (c : ℕ) where
  abbrev Three : Type 0
  Three = Utf8Char ((224 + c / 4096) ∷ (128 + c / 64 % 64) ∷ (128 + c % 64) ∷ [])

  char_3 : 0x800 ≤ c → c < 0x10000 → Scalar c → Three
  char_3 l h z = go (lt_or_le c 0x1000) (lt_or_le c 0xD000) z
    where
      go : (c < 0x1000) ⊎ (0x1000 ≤ c) → (c < 0xD000) ⊎ (0xD000 ≤ c) → Scalar c → Three
      go (inl p) q z =
          let e : 224 + c / 4096 ≡ 0xE0 = omega arith in
          let k : Range 0xA0 0xBF (128 + c / 64 % 64) = (omega arith, omega arith) in
          rw e (three_E0 k (low-six c))
      go (inr p) (inl q) z =
          let k : Range 0xE1 0xEC (224 + c / 4096) = (omega arith, omega arith) in
          three_E1 k (low-six (c / 64)) (low-six c)
      go (inr p) (inr q) (inl w) =
          let e : 224 + c / 4096 ≡ 0xED = omega arith in
          let k : Range 0x80 0x9F (128 + c / 64 % 64) = (omega arith, omega arith) in
          rw e (three_ED k (low-six c))
      go (inr p) (inr q) (inr w) =
          let k : Range 0xEE 0xEF (224 + c / 4096) = (omega arith, omega arith) in
          three_EE k (low-six (c / 64)) (low-six c)

  abbrev Four : Type 0
  Four = Utf8Char ((240 + c / 262144) ∷ (128 + c / 4096 % 64) ∷ (128 + c / 64 % 64) ∷ (128 + c % 64) ∷ [])

  char_4 : 0x10000 ≤ c → c < 0x110000 → Four
  char_4 l h = go (lt_or_le c 0x40000) (lt_or_le c 0x100000)
    where
      go : (c < 0x40000) ⊎ (0x40000 ≤ c) → (c < 0x100000) ⊎ (0x100000 ≤ c) → Four
      go (inl p) q =
          let e : 240 + c / 262144 ≡ 0xF0 = omega arith in
          let k : Range 0x90 0xBF (128 + c / 4096 % 64) = (omega arith, omega arith) in
          rw e (four_F0 k (low-six (c / 64)) (low-six c))
      go (inr p) (inl q) =
          let k : Range 0xF1 0xF3 (240 + c / 262144) = (omega arith, omega arith) in
          four_F1 k (low-six (c / 4096)) (low-six (c / 64)) (low-six c)
      go (inr p) (inr q) =
          let e : 240 + c / 262144 ≡ 0xF4 = omega arith in
          let k : Range 0x80 0x8F (128 + c / 4096 % 64) = (omega arith, omega arith) in
          rw e (four_F4 k (low-six (c / 64)) (low-six c))

  char : Scalar c → Utf8Char (utf8_one c)
  char z = go (sized c)
    where
      go : Sized c → Utf8Char (utf8_one c)
      go (one h) = let k : c ≤ 0x7F = omega arith in rw (utf8_1 h) (one_00 k)
      go (two l h) = let k : Range 0xC2 0xDF (192 + c / 64) = (omega arith, omega arith) in rw (utf8_2 l h) (two_C2 k (low-six c))
      go (three l h) = rw (utf8_3 l h) (char_3 l h z)
      go (four l) = rw (utf8_4 l) (char_4 l (⊎_elim (λ w. omega arith) (λ w. omega arith) z))

octets : (n : ℕ) (s : List ℕ) → length s ≤ n → is_well (from_utf8 s) ≡ true → Utf8Octets s
octets zero [] h ok = none
octets zero (b ∷ s) h ok = absurd (omega arith)
octets (suc n) s h ok = go (first s) (octets n)
  where
    go : First s → ((r : List ℕ) → length r ≤ n → is_well (from_utf8 r) ≡ true → Utf8Octets r) → Utf8Octets s
    go (empty e) m = rw e none
    go (starts c r e z) m =
        let l : length r ≤ n = omega (arith, utf8_one-some c, length-append (utf8_one c) r, ap length e) in
        let w : is_well (from_utf8 s) ≡ is_well (from_utf8 r) = ap is_well (ap from_utf8 (sym e) ∙ utf8-read c r z) ∙ is_well-more c (from_utf8 r) in
        then (char c z) (m r l (sym w ∙ ok)) e
    go (broken e) m = never (cc)

pub well-octets : (s : List ℕ) → is_well (from_utf8 s) ≡ true → Utf8Octets s
well-octets s ok = octets (length s) s (omega arith) ok
