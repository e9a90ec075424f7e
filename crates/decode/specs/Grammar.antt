-- RFC 3629, section 4, word for word: the grammar of UTF-8. Assumes nothing.
use Rattle.std.specs.Prelude.{◌≡◌, List, [], ◌∷◌, ◌++◌, ℕ, ◌≤◌}
use Rattle.decode.specs.Chars.{Range}

-- "UTF8-tail = %x80-BF"
abbrev pub Tail : ℕ → Type 0
Tail b = Range 0x80 0xBF b

-- "UTF8-char = UTF8-1 / UTF8-2 / UTF8-3 / UTF8-4"
pub data Utf8Char : List ℕ → Type 0 where
  -- "UTF8-1 = %x00-7F"
  one_00 : {a : ℕ} → a ≤ 0x7F → Utf8Char (a ∷ [])
  -- "UTF8-2 = %xC2-DF UTF8-tail"
  two_C2 : {a b : ℕ} → Range 0xC2 0xDF a → Tail b → Utf8Char (a ∷ b ∷ [])
  -- "UTF8-3 = %xE0 %xA0-BF UTF8-tail / %xE1-EC 2( UTF8-tail ) / %xED %x80-9F UTF8-tail / %xEE-EF 2( UTF8-tail )"
  three_E0 : {b c : ℕ} → Range 0xA0 0xBF b → Tail c → Utf8Char (0xE0 ∷ b ∷ c ∷ [])
  three_E1 : {a b c : ℕ} → Range 0xE1 0xEC a → Tail b → Tail c → Utf8Char (a ∷ b ∷ c ∷ [])
  three_ED : {b c : ℕ} → Range 0x80 0x9F b → Tail c → Utf8Char (0xED ∷ b ∷ c ∷ [])
  three_EE : {a b c : ℕ} → Range 0xEE 0xEF a → Tail b → Tail c → Utf8Char (a ∷ b ∷ c ∷ [])
  -- "UTF8-4 = %xF0 %x90-BF 2( UTF8-tail ) / %xF1-F3 3( UTF8-tail ) / %xF4 %x80-8F 2( UTF8-tail )"
  four_F0 : {b c d : ℕ} → Range 0x90 0xBF b → Tail c → Tail d → Utf8Char (0xF0 ∷ b ∷ c ∷ d ∷ [])
  four_F1 : {a b c d : ℕ} → Range 0xF1 0xF3 a → Tail b → Tail c → Tail d → Utf8Char (a ∷ b ∷ c ∷ d ∷ [])
  four_F4 : {b c d : ℕ} → Range 0x80 0x8F b → Tail c → Tail d → Utf8Char (0xF4 ∷ b ∷ c ∷ d ∷ [])

-- "UTF8-octets = *( UTF8-char )"
pub data Utf8Octets : List ℕ → Type 0 where
  none : Utf8Octets []
  then : {a r s : List ℕ} → Utf8Char a → Utf8Octets r → a ++ r ≡ s → Utf8Octets s
