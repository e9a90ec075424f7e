-- Laws of bytes that are known to be UTF-8: the first says how many the first character takes, and they are there. Assumes nothing.
use Rattle.std.specs.Prelude.{◌≡◌, refl, Bool, true, false, List, ℕ, ◌-◌, ◌≤◌, ◌<◌, length, get_or, None}
use Rattle.std.proofs.Common.{sym, ⊎_elim, arith}
use Rattle.base.specs.Choose.{lt_or_le}
use Rattle.text.specs.Utf16.{is_well}
use Rattle.text.specs.Utf8.{from_utf8}
use Rattle.decode.specs.Chars.{Range, is_two, is_three, is_four, joined, char_of, a_char}
use Rattle.decode.proofs.TableLaws.{two_is, three-range, four-range, by_one, by_two, by_three, by-four, ill-two, ill-three, ill-four, there, char_of-bytes}
use Rattle.decode.proofs.CharLaws.{char-ill}

module _ (s : List ℕ) (some : 0 < length s) (ok : is_well (from_utf8 s) ≡ true) where
  -- a test whose failure would make the bytes ill-formed holds
  holds : (t : Bool) → (t ≡ false → char_of s ≡ None) → t ≡ true
  holds true f = refl
  holds false f =
      let e = char-ill s some (f refl) in
      let z : ◌≡◌ {A = ℕ} 0 1 = cc in
      absurd (omega arith)

  module _ (a : ℕ) (ea : a ≡ get_or s 0 0) where
    pub first_1 : a ≤ 0x7F → a_char a 1 ≡ char_of s
    first_1 l = rw (char_of-bytes s some, ← ea) (sym (by_one a _ _ _ l))

    is_two_lem : 0x7F < a → a ≤ 0xDF → is_two a (get_or s 1 0) ≡ true
    is_two_lem l h = holds (is_two a (get_or s 1 0)) (λ e. rw (char_of-bytes s some, ← ea) (ill-two a _ _ _ l h e))

    is_three_lem : 0xDF < a → a ≤ 0xEF → is_three a (get_or s 1 0) (get_or s 2 0) ≡ true
    is_three_lem l h = holds (is_three a (get_or s 1 0) (get_or s 2 0)) (λ e. rw (char_of-bytes s some, ← ea) (ill-three a _ _ _ l h e))

    is_four_lem : 0xEF < a → is_four a (get_or s 1 0) (get_or s 2 0) (get_or s 3 0) ≡ true
    is_four_lem l = holds (is_four a (get_or s 1 0) (get_or s 2 0) (get_or s 3 0)) (λ e. rw (char_of-bytes s some, ← ea) (ill-four a _ _ _ l e))

    pub there_3 : 0xEF < a → 3 < length s
    there_3 l = there s 3 (four-range _ _ _ _ (is_four_lem l)).3.0

    pub there_2 : 0xDF < a → 2 < length s
    there_2 l =
        ⊎_elim (λ (h : a < 0xF0). there s 2 (three-range _ _ _ (is_three_lem l (omega arith))).2.0)
        (λ (h : 0xF0 ≤ a). let k = there_3 (omega arith) in omega arith) (lt_or_le a 0xF0)

    pub there_1 : 0x7F < a → 1 < length s
    there_1 l =
        ⊎_elim (λ (h : a < 0xE0). there s 1 (two_is _ _ (is_two_lem l (omega arith))).1.0)
        (λ (h : 0xE0 ≤ a). let k = there_2 (omega arith) in omega arith) (lt_or_le a 0xE0)

    module _ (b : ℕ) (eb : b ≡ get_or s 1 0) where
      pub range_2 : 0x7F < a → a ≤ 0xDF → Range 0xC2 0xDF a × Range 0x80 0xBF b
      range_2 l h = rw eb (two_is _ _ (is_two_lem l h))

      pub first_2 : 0x7F < a → a ≤ 0xDF → (v : ℕ) → v ≡ joined (a - 0xC0) b → a_char v 2 ≡ char_of s
      first_2 l h v ev = rw (ev, char_of-bytes s some, ← ea, eb) (sym (by_two a _ _ _ l (is_two_lem l h)))

      module _ (c : ℕ) (ec : c ≡ get_or s 2 0) where
        pub range_3 : 0xDF < a → a ≤ 0xEF → Range 0xE0 0xEF a × Range 0x80 0xBF b × Range 0x80 0xBF c
        range_3 l h = rw (eb, ec) (three-range _ _ _ (is_three_lem l h))

        pub first_3 : 0xDF < a → a ≤ 0xEF → (v : ℕ) → v ≡ joined (joined (a - 0xE0) b) c → a_char v 3 ≡ char_of s
        first_3 l h v ev = rw (ev, char_of-bytes s some, ← ea, eb, ec) (sym (by_three a _ _ _ l (is_three_lem l h)))

        module _ (d : ℕ) (ed : d ≡ get_or s 3 0) where
          pub range_4 : 0xEF < a → Range 0xF0 0xF4 a × Range 0x80 0xBF b × Range 0x80 0xBF c × Range 0x80 0xBF d
          range_4 l = rw (eb, ec, ed) (four-range _ _ _ _ (is_four_lem l))

          pub first_4 : 0xEF < a → (v : ℕ) → v ≡ joined (joined (joined (a - 0xF0) b) c) d → a_char v 4 ≡ char_of s
          first_4 l v ev = rw (ev, char_of-bytes s some, ← ea, eb, ec, ed) (sym (by-four a _ _ _ l (is_four_lem l)))
