-- UTF-8 (RFC 3629, sections 3 and 4). Assumes nothing.
use Rattle.std.specs.Prelude.{cond, ◌&&◌, ◌||◌, List, [], ◌∷◌, ◌++◌, ℕ, zero, suc, ◌+◌, ◌*◌, ◌-◌, ◌/◌, ◌%◌, leb, ltb}
use Rattle.base.specs.Choose.{choose}
use Rattle.text.specs.Utf16.{Decoded, well, ill, more}

-- 0xxxxxxx; 110xxxxx 10xxxxxx; 1110xxxx 10xxxxxx 10xxxxxx; 11110xxx 10xxxxxx 10xxxxxx 10xxxxxx
unfoldable pub utf8_one : ℕ → List ℕ
utf8_one c =
    cond (ltb c 0x80) (c ∷ [])
    (cond (ltb c 0x800) ((192 + c / 64) ∷ (128 + c % 64) ∷ [])
    (cond (ltb c 0x10000) ((224 + c / 4096) ∷ (128 + c / 64 % 64) ∷ (128 + c % 64) ∷ [])
    ((240 + c / 262144) ∷ (128 + c / 4096 % 64) ∷ (128 + c / 64 % 64) ∷ (128 + c % 64) ∷ [])))

abbrev pub utf8 : List ℕ → List ℕ
utf8 [] = []
utf8 (c ∷ t) = utf8_one c ++ utf8 t

-- what bytes mean: n more bytes of a character are to come, whose bits so far are c and which is `least` or more
unfoldable pub from_utf8_on : ℕ → ℕ → ℕ → List ℕ → Decoded
from_utf8_on zero least c [] = well []
from_utf8_on zero least c (b ∷ s) =
    choose (ltb b 0x80) (λ _. more b (from_utf8_on 0 0 0 s))
    (λ _. choose (ltb b 0xC0) (λ _. ill)
    (λ _. choose (ltb b 0xE0) (λ _. from_utf8_on 1 0x80 (b - 0xC0) s)
    (λ _. choose (ltb b 0xF0) (λ _. from_utf8_on 2 0x800 (b - 0xE0) s)
    (λ _. choose (ltb b 0xF8) (λ _. from_utf8_on 3 0x10000 (b - 0xF0) s) (λ _. ill)))))
from_utf8_on (suc n) least c [] = ill
from_utf8_on (suc zero) least c (b ∷ s) =
    let d = c * 64 + (b - 0x80) in
    choose (leb 0x80 b && ltb b 0xC0 && leb least d && leb d 0x10FFFF && (ltb d 0xD800 || leb 0xE000 d)) (λ _. more d (from_utf8_on 0 0 0 s)) (λ _. ill)
from_utf8_on (suc (suc n)) least c (b ∷ s) =
    choose (leb 0x80 b && ltb b 0xC0) (λ _. from_utf8_on (suc n) least (c * 64 + (b - 0x80)) s) (λ _. ill)

-- the text of some bytes: no overlong form, no surrogate, nothing above 10FFFF
unfoldable pub from_utf8 : List ℕ → Decoded
from_utf8 s = from_utf8_on 0 0 0 s
