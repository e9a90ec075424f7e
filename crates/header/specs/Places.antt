-- A description by position, for code: where its texts and lists stand, and what they are. A text stands after its 4-byte length; behind a name text
-- comes nothing more (`more` is 0), behind an imported name's its number (`more` is 4). Assumes nothing.
use Rattle.std.specs.Prelude.{Bool, true, ◌&&◌, List, [], ◌∷◌, ℕ, zero, suc, ◌+◌, ◌*◌, leb, eqb, length, take, drop}
use Rattle.base.specs.Number.{be_at}
use Rattle.base.specs.ReadingRows.{cells}
use Rattle.text.specs.Utf16.{is_well}
use Rattle.text.specs.Utf8.{from_utf8}
use Rattle.decode.specs.Measure.{text_of}
use Rattle.written.specs.HeaderBytes.{ImportedName, Description}
use Rattle.zen.specs.declared.tables.Export.{Export}
use Rattle.description.specs.Form.{description_version}

-- ---- a text

-- the UTF-8 of the text at a place, and the text
abbrev pub utf8_at : List ℕ → ℕ → List ℕ
utf8_at s at = take (be_at 4 s at) (drop (at + 4) s)

abbrev pub text_at : List ℕ → ℕ → List ℕ
text_at s at = text_of (utf8_at s at)

-- where it ends, and where the next one starts
abbrev pub text_end : List ℕ → ℕ → ℕ
text_end s at = at + 4 + be_at 4 s at

abbrev pub next_text : ℕ → List ℕ → ℕ → ℕ
next_text more s at = text_end s at + more

-- it is there, with what stands behind it, and is UTF-8
unfoldable pub text_well : ℕ → List ℕ → ℕ → Bool
text_well more s at = leb (at + 4) (length s) && leb (next_text more s at) (length s) && is_well (from_utf8 (utf8_at s at))

-- ---- texts, one behind another

-- where the one behind n of them starts
unfoldable pub text_place : ℕ → List ℕ → ℕ → ℕ → ℕ
text_place more s at zero = at
text_place more s at (suc n) = text_place more s (next_text more s at) n

unfoldable pub texts_from : ℕ → List ℕ → ℕ → ℕ → List (List ℕ)
texts_from more s at zero = []
texts_from more s at (suc n) = text_at s at ∷ texts_from more s (next_text more s at) n

unfoldable pub texts_well : ℕ → List ℕ → ℕ → ℕ → Bool
texts_well more s at zero = true
texts_well more s at (suc n) = text_well more s at && texts_well more s (next_text more s at) n

-- imported names
unfoldable pub imported_at : List ℕ → ℕ → ImportedName
imported_at s at = record { text = text_at s at; number = be_at 4 s (text_end s at) }

unfoldable pub imported_from : List ℕ → ℕ → ℕ → List ImportedName
imported_from s at zero = []
imported_from s at (suc n) = imported_at s at ∷ imported_from s (next_text 4 s at) n

-- ---- an export of 40 bytes

unfoldable pub export_in : List ℕ → ℕ → Export
export_in s at = record {
  index = be_at 4 s at;
  number = be_at 4 s (at + 4);
  outer = be_at 8 s (at + 8);
  class = be_at 8 s (at + 16);
  parent = be_at 8 s (at + 24);
  hash = be_at 8 s (at + 32);
}

-- ---- the lists: the first count is at 13; where the other counts are, each list standing 4 bytes behind its own

abbrev pub text_count : List ℕ → ℕ
text_count s = be_at 4 s 13

unfoldable pub exports_place : List ℕ → ℕ
exports_place s = text_place 0 s 17 (text_count s)

abbrev pub export_count : List ℕ → ℕ
export_count s = be_at 4 s (exports_place s)

unfoldable pub hashes_place : List ℕ → ℕ
hashes_place s = exports_place s + 4 + 40 * export_count s

abbrev pub hash_count : List ℕ → ℕ
hash_count s = be_at 4 s (hashes_place s)

unfoldable pub imported_place : List ℕ → ℕ
imported_place s = hashes_place s + 4 + 8 * hash_count s

abbrev pub imported_count : List ℕ → ℕ
imported_count s = be_at 4 s (imported_place s)

unfoldable pub form_end : List ℕ → ℕ
form_end s = text_place 4 s (imported_place s + 4) (imported_count s)

-- what is described
unfoldable pub description_at : List ℕ → Description
description_at s = record {
  name = be_at 4 s 5;
  number = be_at 4 s 9;
  texts = texts_from 0 s 17 (text_count s);
  exports = cells (export_in s) 40 (exports_place s + 4) (export_count s);
  hashes = cells (be_at 8 s) 8 (hashes_place s + 4) (hash_count s);
  imported = imported_from s (imported_place s + 4) (imported_count s);
}

-- whether it is well-formed
unfoldable pub in_form : List ℕ → Bool
in_form s =
    leb 17 (length s) && eqb (be_at 4 s 0 + 4) (length s) && eqb (be_at 1 s 4) description_version && texts_well 0 s 17 (text_count s)
    && leb (exports_place s + 4) (length s) && leb (hashes_place s + 4) (length s) && leb (imported_place s + 4) (length s)
    && texts_well 4 s (imported_place s + 4) (imported_count s) && eqb (form_end s) (length s)
