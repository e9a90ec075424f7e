-- A name batch from the writing side (document 01, "Name batch"): names are given as texts, lists of scalar values. Assumes nothing.
use Rattle.std.specs.Prelude.{cond, List, [], ◌∷◌, ◌++◌, ℕ, ◌+◌, ◌*◌, length, replicate}
use Rattle.base.specs.Find.{flat}
use Rattle.base.specs.Number.{be_bytes, le_bytes}
use Rattle.text.specs.Utf16.{encode16, utf16le}
use Rattle.decode.specs.Measure.{fits_latin1}

-- "Inside blocks numbers are little-endian"
abbrev pub le4 : ℕ → List ℕ
le4 x = le_bytes 4 x

abbrev pub le8 : ℕ → List ℕ
le8 x = le_bytes 8 x

-- document 02, Q-4: "text that fits Latin-1 is written so", each byte its code point; any other as UTF-16LE
unfoldable pub string_bytes : List ℕ → List ℕ
string_bytes t = cond (fits_latin1 t) t (utf16le t)

-- "Header byte 0, bit 7: UTF-16LE; its low 7 bits times 256 plus byte 1: length in units". Latin-1 has as many bytes as units
unfoldable pub head_bytes : List ℕ → List ℕ
head_bytes t = be_bytes 2 (cond (fits_latin1 t) 0 0x8000 + length (encode16 t))

-- "u32 string length, u64 hash version 0xC1640000, 8n hash bytes, n two-byte headers, the strings. [..] Strings follow each other unaligned".
-- The hash bytes are passed over, so 0
unfoldable pub some_bytes : List (List ℕ) → List ℕ
some_bytes ts =
    le4 (length ts) ++ le4 (length (flat string_bytes ts)) ++ le8 0xC1640000 ++ replicate (8 * length ts) 0
    ++ flat head_bytes ts ++ flat string_bytes ts

-- "u32 count n; if 0 nothing more is read"
unfoldable pub batch_bytes : List (List ℕ) → List ℕ
batch_bytes [] = le4 0
batch_bytes (t ∷ ts) = some_bytes (t ∷ ts)
