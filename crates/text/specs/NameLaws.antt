-- Laws of names: how long a suffix is, and the bytes of a rendered name and of a text. Assumes nothing.
use Rattle.std.specs.Prelude.{◌≡◌, refl, Bool, true, List, [], ◌∷◌, ◌++◌, ℕ, zero, suc, ◌+◌, ◌-◌, ◌^◌, ◌≤◌, ◌<◌, length}
use Rattle.std.proofs.Common.{ap, ◌∙◌, sub-one, arith, length-append}
use Rattle.text.specs.Affix.{all_ascii}
use Rattle.base.specs.Number.{be_bytes}
use Rattle.text.specs.Utf8.{utf8}
use Rattle.text.specs.Utf8Laws.{utf8_append, utf8-ascii}
use Rattle.text.specs.Digits.{decimal}
use Rattle.text.specs.DigitsLaws.{decimal-short, decimal-fits, decimal-ascii}
use Rattle.text.specs.Name.{base, suffix, rendered, text_bytes}

-- number 0 adds nothing, another one `_` and the number before it
pub suffix-none : {number : ℕ} → number ≡ 0 → suffix number ≡ []
suffix-none e = rw e

pub suffix-more : (number : ℕ) → (number ≡ 0 → ⊥) → suffix number ≡ 95 ∷ decimal (number - 1)
suffix-more zero z = absurd (z refl)
suffix-more (suc n) z = rw sub-one

-- a suffix is ASCII and short
pub suffix-ascii : (number : ℕ) → all_ascii (suffix number) ≡ true
suffix-ascii zero = refl
suffix-ascii (suc n) = decimal-ascii n

pub suffix-short : (number : ℕ) → length (suffix number) ≤ 21
suffix-short zero = omega arith
suffix-short (suc n) = omega (arith, decimal-short n)

pub suffix-fits : (number : ℕ) → number < 2 ^ 32 → length (suffix number) ≤ 11
suffix-fits zero h = omega arith
suffix-fits (suc n) h = omega (arith, decimal-fits 9 n (omega arith))

-- the bytes of a rendered name, how many they are, and how many bytes a text takes
pub rendered-bytes : (wide : Bool) (part : List ℕ) (number : ℕ) → utf8 (rendered wide part number) ≡ utf8 (base wide part) ++ suffix number
rendered-bytes wide part number = utf8_append (base wide part) (suffix number) ∙ rw (utf8-ascii (suffix number) (suffix-ascii number))

pub rendered-length : (wide : Bool) (part : List ℕ) (number : ℕ)
    → length (utf8 (rendered wide part number)) ≡ length (utf8 (base wide part)) + length (suffix number)
rendered-length wide part number = ap length (rendered-bytes wide part number) ∙ length-append (utf8 (base wide part)) (suffix number)

pub text_bytes-length : (t : List ℕ) → length (text_bytes t) ≡ 4 + length (utf8 t)
unfolding text_bytes be_bytes
text_bytes-length t = length-append (be_bytes 4 (length (utf8 t))) (utf8 t)
