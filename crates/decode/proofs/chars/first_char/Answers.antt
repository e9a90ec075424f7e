-- `decode::chars::first_char` meets its contract: the bytes read so far and the tests on them decide. Assumes nothing.
use Rattle.std.specs.Prelude.{None, Some, [], ◌∷◌, slice_get}
use native.Mathlib.Omega.{arith}
use Rattle.base.specs.Never.{never}
use mathlib.Core.Path.{◌≡◌, sym, ◌∙◌}
use mathlib.Core.Bool.{Bool, true, false}
use mathlib.Core.List.{List}
use Prim.Native.Nat.{ℕ, ◌-◌, ◌≤◌, ◌<◌}
use lib.ListN.{length, get_or}
use Rattle.decode.specs.Chars.{is_two, is_three, is_four, joined, char_of, a_char}
use Rattle.decode.proofs.TableLaws.{two_is, three-range, four-range, by_one, by_two, by_three, by-four, ill-two, ill-three, ill-four, char_of-none, char_of-bytes}
use Rattle.decode.proofs.chars.first_char.Goals as goal

-- the first byte, as the library gives it
head-is : (s : List ℕ) {a : ℕ} → Some a ≡ slice_get s 0 → (1 ≤ length s) × (a ≡ get_or s 0 0)
head-is [] e = never (cc)
head-is (b ∷ s) e = (omega arith, cc)

no_head : (s : List ℕ) → None ≡ slice_get s 0 → None ≡ char_of s
no_head [] e = sym (char_of-none [] (omega arith))
no_head (b ∷ s) e = never (cc)

-- the character that starts with a, by the tests so far
module _ (s : List ℕ) (h : 1 ≤ length s) (a : ℕ) (ea : a ≡ get_or s 0 0) where
  char_1 : a ≤ 0x7F → a_char a 1 ≡ char_of s
  char_1 l = rw (char_of-bytes s h, ← ea) (sym (by_one a _ _ _ l))

  module _ (l : 0x7F < a) (b : ℕ) (eb : b ≡ get_or s 1 0) where
    char_2 : (t : Bool) → t ≡ is_two a b → t ≡ true → (v : ℕ) → v ≡ joined (a - 0xC0) b → a_char v 2 ≡ char_of s
    char_2 t et p v ev = rw (char_of-bytes s h, ← ea, ← eb, ev) (sym (by_two a b _ _ l (sym et ∙ p)))

    no_char_2 : a ≤ 0xDF → (t : Bool) → t ≡ is_two a b → t ≡ false → None ≡ char_of s
    no_char_2 g t et p = rw (char_of-bytes s h, ← ea, ← eb) (sym (ill-two a b _ _ l g (sym et ∙ p)))

    module _ (k : 0xDF < a) (c : ℕ) (ec : c ≡ get_or s 2 0) where
      char_3 : (t : Bool) → t ≡ is_three a b c → t ≡ true → (v : ℕ) → v ≡ joined (joined (a - 0xE0) b) c → a_char v 3 ≡ char_of s
      char_3 t et p v ev = rw (char_of-bytes s h, ← ea, ← eb, ← ec, ev) (sym (by_three a b c _ k (sym et ∙ p)))

      no_char_3 : a ≤ 0xEF → (t : Bool) → t ≡ is_three a b c → t ≡ false → None ≡ char_of s
      no_char_3 g t et p = rw (char_of-bytes s h, ← ea, ← eb, ← ec) (sym (ill-three a b c _ k g (sym et ∙ p)))

      module _ (m : 0xEF < a) (d : ℕ) (ed : d ≡ get_or s 3 0) (t : Bool) (et : t ≡ is_four a b c d) where
        char_4 : t ≡ true → (v : ℕ) → v ≡ joined (joined (joined (a - 0xF0) b) c) d → a_char v 4 ≡ char_of s
        char_4 p v ev = rw (char_of-bytes s h, ← ea, ← eb, ← ec, ← ed, ev) (sym (by-four a b c d m (sym et ∙ p)))

        no_char_4 : t ≡ false → None ≡ char_of s
        no_char_4 p = rw (char_of-bytes s h, ← ea, ← eb, ← ec, ← ed) (sym (ill-four a b c d m (sym et ∙ p)))

pub returns-in_err-a : goal.returns-in_err-a
returns-in_err-a c = c.from_residual.ensures ∙ no_head c.args.s.now c.in_err-a.ensures.value

pub returns-then-a-le127 : goal.returns-then-a-le127
returns-then-a-le127 c =
    let p = head-is c.args.s.now c.in_ok-a.ensures.value in
    rw c.from.ensures (char_1 c.args.s.now p.0 _ p.1 c.if-a-le127.true)

pub two-requires : goal.two-requires
two-requires c = two_is _ _ (sym c.is_two.ensures ∙ c.if-is_two.true)

pub returns-then-is_two : goal.returns-then-is_two
returns-then-is_two c =
    let p = head-is c.args.s.now c.in_ok-a.ensures.value in
    char_2 c.args.s.now p.0 _ p.1 c.if-a-le127.false _ c.byte-b.ensures _ c.is_two.ensures c.if-is_two.true _ c.two.ensures

pub returns-then-a-le223 : goal.returns-then-a-le223
returns-then-a-le223 c =
    let p = head-is c.args.s.now c.in_ok-a.ensures.value in
    no_char_2 c.args.s.now p.0 _ p.1 c.if-a-le127.false _ c.byte-b.ensures c.if-a-le223.true _ c.is_two.ensures c.if-is_two.false

pub three-requires : goal.three-requires
three-requires c = three-range _ _ _ (sym c.is_three.ensures ∙ c.if-is_three.true)

pub returns-then-is_three : goal.returns-then-is_three
returns-then-is_three c =
    let p = head-is c.args.s.now c.in_ok-a.ensures.value in
    char_3 c.args.s.now p.0 _ p.1 c.if-a-le127.false _ c.byte-b.ensures c.if-a-le223.false _ c.byte-c.ensures _ c.is_three.ensures c.if-is_three.true
    _ c.three.ensures

pub returns-then-a-le239 : goal.returns-then-a-le239
returns-then-a-le239 c =
    let p = head-is c.args.s.now c.in_ok-a.ensures.value in
    no_char_3 c.args.s.now p.0 _ p.1 c.if-a-le127.false _ c.byte-b.ensures c.if-a-le223.false _ c.byte-c.ensures c.if-a-le239.true
    _ c.is_three.ensures c.if-is_three.false

pub four-requires : goal.four-requires
four-requires c = four-range _ _ _ _ (sym c.is_four.ensures ∙ c.if-is_four.true)

pub returns-then-is_four : goal.returns-then-is_four
returns-then-is_four c =
    let p = head-is c.args.s.now c.in_ok-a.ensures.value in
    char_4 c.args.s.now p.0 _ p.1 c.if-a-le127.false _ c.byte-b.ensures c.if-a-le223.false _ c.byte-c.ensures c.if-a-le239.false _ c.byte-d.ensures
    _ c.is_four.ensures c.if-is_four.true _ c.four.ensures

pub returns : goal.returns
returns c =
    let p = head-is c.args.s.now c.in_ok-a.ensures.value in
    no_char_4 c.args.s.now p.0 _ p.1 c.if-a-le127.false _ c.byte-b.ensures c.if-a-le223.false _ c.byte-c.ensures c.if-a-le239.false _ c.byte-d.ensures
    _ c.is_four.ensures c.if-is_four.false
