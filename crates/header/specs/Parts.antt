-- A description's parts by position, for code: where each starts, when the whole is one that can be written, and the code's answers. Assumes nothing.
use Rattle.std.specs.Prelude.{◌≡◌, Bool, true, cond, ◌&&◌, List, [], ◌∷◌, ◌++◌, ℕ, zero, suc, ◌+◌, ◌*◌, ◌/◌, ◌^◌, ◌≤◌, ◌<◌, leb, eqb, Option, Some, None, length, take, drop, get_or, replicate}
use Rattle.base.specs.Choose.{pick}
use Rattle.base.specs.Find.{flat}
use Rattle.base.specs.Number.{be_at}
use Rattle.base.specs.ReadingRows.{cells}
use Rattle.text.specs.Utf16.{encode16}
use Rattle.written.specs.BatchBytes.{le4, le8, string_bytes, head_bytes}
use Rattle.written.specs.HeaderBytes.{Description, export_bytes, header_size, longest_name, longest_header}
use Rattle.zen.specs.Zen.{named}
use Rattle.zen.specs.declared.tables.Export.{Export}
use Rattle.header.specs.Places.{text_at, next_text, text_well, text_place, texts_from, export_in}
use Rattle.header.specs.Places.{text_count, exports_place, export_count, hashes_place, hash_count, imported_place, imported_count, form_end, description_at}
use Rattle.header.specs.declared.check.Extent.{Extent}
use Rattle.header.specs.declared.check.Parts.{Parts}
use Rattle.header.specs.declared.check.Regions.{Regions}

-- ---- texts

-- a text is there, is UTF-8, and is not too long for a name
unfoldable pub text_fits : ℕ → List ℕ → ℕ → Bool
text_fits more s at = text_well more s at && leb (length (encode16 (text_at s at))) longest_name

unfoldable pub texts_fit : ℕ → List ℕ → ℕ → ℕ → Bool
texts_fit more s at zero = true
texts_fit more s at (suc n) = text_fits more s at && texts_fit more s (next_text more s at) n

-- how many bytes the strings of texts take
unfoldable pub strings_from : ℕ → List ℕ → ℕ → ℕ → ℕ
strings_from more s at n = length (flat string_bytes (texts_from more s at n))

-- the code's answers
abbrev pub string_size : ℕ → Bool → ℕ
string_size units latin = cond latin units (2 * units)

-- where some texts end, and how many bytes their strings take
abbrev pub extent : ℕ → ℕ → Extent
extent next size = record { next = next; size = size }

unfoldable pub sized_text : ℕ → List ℕ → ℕ → Option Extent
sized_text more s at = pick (text_fits more s at) (Some (extent (next_text more s at) (length (string_bytes (text_at s at))))) None

-- where some size went before
unfoldable pub sized_texts : ℕ → ℕ → List ℕ → ℕ → ℕ → Option Extent
sized_texts size more s at n = pick (texts_fit more s at n) (Some (extent (text_place more s at n) (size + strings_from more s at n))) None

-- ---- the whole

abbrev pub exports_in : List ℕ → List Export
exports_in s = cells (export_in s) 40 (exports_place s + 4) (export_count s)

-- it is a description, and one that can be written
pub record Whole (s : List ℕ) : Type 0 where
  pub front : 17 ≤ length s
  pub said : be_at 4 s 0 + 4 ≡ length s
  pub version : get_or s 4 0 ≡ 1
  pub texts : texts_fit 0 s 17 (text_count s) ≡ true
  pub exports : exports_place s + 4 ≤ length s
  pub hashes : hashes_place s + 4 ≤ length s
  pub imported : imported_place s + 4 ≤ length s
  pub names : texts_fit 4 s (imported_place s + 4) (imported_count s) ≡ true
  pub whole : form_end s ≡ length s
  pub name : be_at 4 s 5 < text_count s
  pub named-all : named (text_count s) (exports_in s) ≡ true
  pub size : header_size (description_at s) ≤ longest_header

-- ---- the code's parts

unfoldable pub parts_of : List ℕ → Parts
parts_of s = record {
  texts = text_count s;
  strings = strings_from 0 s 17 (text_count s);
  exports = exports_place s + 4;
  entries = export_count s;
  hashes = hashes_place s + 4;
  keys = hash_count s;
  imported = imported_place s + 4;
  names = imported_count s;
  spelt = strings_from 4 s (imported_place s + 4) (imported_count s);
}

-- the check's answer
abbrev pub Says : List ℕ → Option Parts → Type 0
Says s (Some p) = (p ≡ parts_of s) × Whole s
Says s None = Whole s → ⊥

-- how far it came: to the texts' end; to the hashes' end; to the end
pub record Begun (s : List ℕ) («end» strings : ℕ) : Type 0 where
  pub front : 17 ≤ length s
  pub said : be_at 4 s 0 + 4 ≡ length s
  pub version : get_or s 4 0 ≡ 1
  pub texts : texts_fit 0 s 17 (text_count s) ≡ true
  pub end_is : «end» ≡ exports_place s
  pub strings-is : strings ≡ strings_from 0 s 17 (text_count s)
  pub within : «end» ≤ length s
  pub few : text_count s < 2 ^ 32

pub record Tabled (s : List ℕ) («end» strings hashes stop : ℕ) : Type 0 where
  pub begun : Begun s «end» strings
  pub hashes-are : hashes ≡ hashes_place s
  pub stop_is : stop ≡ imported_place s
  pub low : «end» + 4 ≤ hashes
  pub mid : hashes + 4 ≤ stop
  pub imported : stop + 4 ≤ length s

pub record Listed (s : List ℕ) (p : Parts) : Type 0 where
  pub parts : p ≡ parts_of s
  pub front : 17 ≤ length s
  pub said : be_at 4 s 0 + 4 ≡ length s
  pub version : get_or s 4 0 ≡ 1
  pub texts : texts_fit 0 s 17 (text_count s) ≡ true
  pub imported : imported_place s + 4 ≤ length s
  pub names : texts_fit 4 s (imported_place s + 4) (imported_count s) ≡ true
  pub whole : form_end s ≡ length s
  pub few : text_count s < 2 ^ 32
  pub few-exports : export_count s < 2 ^ 32
  pub few-hashes : hash_count s < 2 ^ 32
  pub few-imported : imported_count s < 2 ^ 32

-- ---- sizes

unfoldable pub batch_of : ℕ → ℕ → ℕ
batch_of count strings = cond (eqb count 0) 4 (16 + 10 * count + strings)

abbrev pub hashes_from : Parts → ℕ
hashes_from p = 52 + batch_of p.texts p.strings + 8

abbrev pub exports_from : Parts → ℕ
exports_from p = hashes_from p + 8 * p.keys

abbrev pub imported_on : Parts → ℕ
imported_on p = exports_from p + 72 * p.entries

unfoldable pub regions_of : Parts → Regions
regions_of p = record {
  hashes = hashes_from p;
  exports = exports_from p;
  imported = imported_on p;
  size = imported_on p + batch_of p.names p.spelt + 4 * p.names;
}

-- numbers that 64 bits hold the sums of
pub record Small (p : Parts) : Type 0 where
  pub texts : p.texts < 2 ^ 32
  pub strings : p.strings ≤ 65534 * p.texts
  pub exports : p.entries < 2 ^ 32
  pub hashes : p.keys < 2 ^ 32
  pub imported : p.names < 2 ^ 32
  pub spelt : p.spelt ≤ 65534 * p.names

-- ---- what is written, in the parts that the code writes

-- a text is there, with what stands behind it
pub record TextIn (more : ℕ) (s : List ℕ) (at : ℕ) : Type 0 where
  pub there : at + 4 ≤ length s
  pub next : next_text more s at ≤ length s

-- how many units a string of so many bytes has
abbrev pub string_units : ℕ → Bool → ℕ
string_units size latin = cond latin size (size / 2)

-- a buffer in which some bytes were written at a place
unfoldable pub laid : List ℕ → ℕ → List ℕ → List ℕ
laid o at b = take at o ++ b ++ drop (at + length b) o

unfoldable pub front_bytes : ℕ → ℕ → List ℕ
front_bytes count strings = le4 count ++ le4 strings ++ le8 0xC1640000

unfoldable pub names_bytes : List (List ℕ) → List ℕ
names_bytes ts = replicate (8 * length ts) 0 ++ flat head_bytes ts ++ flat string_bytes ts

-- the summary's thirteen numbers
unfoldable pub summary_words : List ℕ → Regions → List ℕ
summary_words s g =
    0 ∷ g.size ∷ be_at 4 s 5 ∷ be_at 4 s 9 ∷ 0 ∷ 0 ∷ g.hashes ∷ g.exports ∷ g.exports ∷ g.imported ∷ g.imported ∷ g.imported ∷ g.imported ∷ []

unfoldable pub tables_bytes : Description → List ℕ
tables_bytes d = le8 0 ++ flat le8 d.hashes ++ flat export_bytes d.exports
