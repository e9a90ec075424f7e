-- A description in house form, read (document 02, Q-4: "the package name (text number, instance number, 4 bytes each), then four lists, each after a
-- 4-byte count: name texts; exports (name likewise; outer, class, super, public hash, 8 bytes each); public hashes; imported names (text, 4-byte
-- number)"; document 01: "House form there: big-endian, 4-byte length of the rest, version byte 1, then what is listed", "Text: 4-byte length,
-- UTF-8"). Assumes nothing.
use Rattle.std.specs.Prelude.{List, ℕ, eqb}
use Rattle.base.specs.House.{be_number}
use Rattle.base.specs.Reading.{Reading, give, ◌>>=◌, ◌>>◌, taken, bytes_left, ask, rows}
use Rattle.text.specs.Utf16.{is_well}
use Rattle.text.specs.Utf8.{from_utf8}
use Rattle.decode.specs.Measure.{text_of}
use Rattle.written.specs.HeaderBytes.{ImportedName, Description}
use Rattle.zen.specs.declared.tables.Export.{Export}

-- "version byte 1"
abbrev pub description_version : ℕ
description_version = 1

-- "malformed (bad UTF-8 [..] included)"
unfoldable pub text : Reading (List ℕ)
text = do
  n ← be_number 4
  s ← taken n
  ask (is_well (from_utf8 s)) 27
  give (text_of s)

unfoldable pub export : Reading Export
export = do
  i ← be_number 4
  n ← be_number 4
  o ← be_number 8
  c ← be_number 8
  p ← be_number 8
  h ← be_number 8
  give (record { index = i; number = n; outer = o; class = c; parent = p; hash = h })

unfoldable pub imported : Reading ImportedName
imported = do
  t ← text
  n ← be_number 4
  give (record { text = t; number = n })

-- a list "after a 4-byte count"
abbrev pub list_of : {A : Type 0} → Reading A → Reading (List A)
list_of p = be_number 4 >>= λ n. rows n p

-- name, texts, exports, hashes, imported names; nothing is left over
unfoldable pub content : Reading Description
content = do
  i ← be_number 4
  n ← be_number 4
  ts ← list_of text
  es ← list_of export
  hs ← list_of (be_number 8)
  is ← list_of imported
  rest ← bytes_left
  ask (eqb rest 0) 27
  give (record { name = i; number = n; texts = ts; exports = es; hashes = hs; imported = is })

-- "4-byte length of the rest, version byte 1"
unfoldable pub description : Reading Description
description = do
  n ← be_number 4
  left ← bytes_left
  ask (eqb n left) 27
  version ← be_number 1
  ask (eqb version description_version) 27
  content
