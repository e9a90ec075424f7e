-- Loops over the characters of some bytes: what a turn passes. Assumes nothing.
use Rattle.std.specs.Prelude.{◌≡◌, true, List, [], ◌∷◌, ℕ, ◌+◌, ◌≤◌, ◌<◌, length, drop, None, Some}
use Rattle.std.proofs.Common.{sym, ap, ◌∙◌, ⊎_elim, arith, lt-ltb, le-ltb, length-append, length-drop, drop_of_length-le, drop-drop}
use Rattle.base.specs.Choose.{lt_or_le}
use Rattle.text.specs.Utf16.{well, ill, is_well, scalars, encode_one}
use Rattle.text.specs.UnitsLaws.{is_well-more, scalars-more}
use Rattle.text.specs.Utf8.{utf8_one, from_utf8, from_utf8_on}
use Rattle.text.specs.Utf8Laws.{utf8_4}
use Rattle.decode.specs.declared.chars.Char.{Char}
use Rattle.decode.specs.ReadLaws.{utf8_one-some}
use Rattle.decode.specs.Chars.{char_of}
use Rattle.decode.proofs.CharLaws.{char-starts, char-more, char-ill}
pub use Rattle.decode.specs.TurnLaws.{Turn, from, text_from}

-- how many units a scalar value has, and that it has as many bytes of UTF-8 at least
pub one_unit : (c : ℕ) → c < 0x10000 → encode_one c ≡ c ∷ []
unfolding encode_one
one_unit c h = rw (lt-ltb _ _ h)

pub two-units : (c : ℕ) → 0x10000 ≤ c → length (encode_one c) ≡ 2
unfolding encode_one
two-units c h = rw (le-ltb _ _ h)

pub fewer-units : (c : ℕ) → length (encode_one c) ≤ length (utf8_one c)
fewer-units c =
    ⊎_elim (λ h. omega (arith, ap length (one_unit c h), utf8_one-some c)) (λ h. omega (arith, two-units c h, ap length (utf8_4 h))) (lt_or_le c 0x10000)

module _ (s : List ℕ) (at : ℕ) where
  pub turn : (h : at < length s) {c : Char} → char_of (drop at s) ≡ Some c → Turn s at c.value c.size
  turn h {c} e =
      let z = char-starts (drop at s) e in
      record {
        within = omega (arith, ap length z.is, length-append (utf8_one c.value) (drop c.size (drop at s)), z.size, length-drop at s);
        some = omega (arith, utf8_one-some c.value, z.size);
        small = ⊎_elim (λ w. omega arith) (λ w. omega arith) z.scalar;
        units = omega (arith, fewer-units c.value, z.size);
        is = char-more (drop at s) e ∙ rw (drop-drop c.size at s);
      }

  pub turn-ill : at < length s → char_of (drop at s) ≡ None → from s at ≡ ill
  turn-ill h e = char-ill (drop at s) (omega (arith, length-drop at s)) e

  -- where the bytes are well-formed every turn passes a scalar value
  pub turn-well : at < length s → is_well (from s at) ≡ true → char_of (drop at s) ≡ None → ⊥
  turn-well h ok e =
      let f = turn-ill h e in
      let z : ◌≡◌ {A = ℕ} 0 1 = cc in
      omega arith

-- before the first turn, and after the last
pub last_turn : (s : List ℕ) (at : ℕ) → length s ≤ at → from s at ≡ well []
unfolding from_utf8 from_utf8_on
last_turn s at h = rw (drop_of_length-le s h)

module _ {s : List ℕ} {at c k : ℕ} (t : Turn s at c k) where
  pub well-next : is_well (from s at) ≡ is_well (from s (at + k))
  well-next = ap is_well t.is ∙ is_well-more c (from s (at + k))

  pub text-next : is_well (from s at) ≡ true → text_from s at ≡ c ∷ text_from s (at + k)
  text-next ok = ap scalars t.is ∙ scalars-more c (from s (at + k)) (sym well-next ∙ ok)
