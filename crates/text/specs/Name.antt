-- Names: the text of a part of a block, and an instance number (document 01, "reader.rs, names.rs"). Assumes nothing.
use Rattle.std.specs.Prelude.{Bool, true, false, List, [], ◌∷◌, ◌++◌, ℕ, zero, suc, length}
use Rattle.base.specs.Number.{be_bytes}
use Rattle.text.specs.Utf16.{Decoded, well, scalars, utf16, units}
use Rattle.text.specs.Utf8.{utf8}
use Rattle.text.specs.Digits.{decimal}

-- "One-byte text is Latin-1": each byte is its code point; else UTF-16LE
unfoldable pub decoded : Bool → List ℕ → Decoded
decoded false part = well part
decoded true part = utf16 (units part)

-- '"Base" is the text without it'
abbrev pub base : Bool → List ℕ → List ℕ
base wide part = scalars (decoded wide part)

-- "Number 0 adds nothing, N adds `_` and N - 1 in decimal"
abbrev pub suffix : ℕ → List ℕ
suffix zero = []
suffix (suc n) = 95 ∷ decimal n

-- '"rendered" with it'
abbrev pub rendered : Bool → List ℕ → ℕ → List ℕ
rendered wide part number = base wide part ++ suffix number

-- "Text: 4-byte length, UTF-8"
unfoldable pub text_bytes : List ℕ → List ℕ
text_bytes t = be_bytes 4 (length (utf8 t)) ++ utf8 t
