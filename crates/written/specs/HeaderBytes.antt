-- A package header from the writing side (document 02, Q-4, over document 01's layout, "zen.rs"): what describes one, the bytes that are written for
-- it, and what was read, described. Assumes nothing.
use Rattle.std.specs.Prelude.{Bool, true, ◌&&◌, List, [], ◌∷◌, ◌++◌, map, ℕ, ◌+◌, ◌*◌, leb, ltb, length}
use Rattle.base.specs.Find.{flat}
use Rattle.text.specs.Utf16.{encode16}
use Rattle.zen.specs.Zen.{Read, named}
use Rattle.written.specs.BatchBytes.{le4, le8, batch_bytes}
use Rattle.zen.specs.declared.tables.Export.{Export}

-- ---- a description

-- "imported names (text, 4-byte number)"
pub record ImportedName : Type 0 where
  pub text : List ℕ
  pub number : ℕ

-- "the package name (text number, instance number [..]), then four lists [..]: name texts; exports (name likewise; outer, class, super, public
-- hash [..]); public hashes; imported names". A text is a list of scalar values; an export's name is its text number, `index`, and its instance number
pub record Description : Type 0 where
  pub name : ℕ
  pub number : ℕ
  pub texts : List (List ℕ)
  pub exports : List Export
  pub hashes : List ℕ
  pub imported : List ImportedName

abbrev pub imported_texts : List ImportedName → List (List ℕ)
imported_texts names = map (λ (i : ImportedName). i.text) names

-- ---- its bytes: what is passed over and what is not described is 0 or empty

-- "Mapped name: u32 whose low 30 bits index the batch, u32 instance number"
abbrev pub mapped : ℕ → ℕ → List ℕ
mapped index number = le4 index ++ le4 number

-- "Export, 72 bytes: u64 serial offset, u64 serial size, mapped name, u64 outer, class, super, template, public hash, u32 object flags, u8 filter
-- flags, 3 bytes"
unfoldable pub export_bytes : Export → List ℕ
export_bytes e = le8 0 ++ le8 0 ++ mapped e.index e.number ++ le8 e.outer ++ le8 e.class ++ le8 e.parent ++ le8 0 ++ le8 e.hash ++ le8 0

-- "Imported names: a batch, then a u32 number per name"
unfoldable pub imported_bytes : List ImportedName → List ℕ
imported_bytes names = batch_bytes (imported_texts names) ++ flat (λ (i : ImportedName). le4 i.number) names

-- "regions stand without gaps, those not described empty": where each starts is what is written before it. Summary, name batch and bulk size, no bulk
-- bytes; public hashes; no import map; exports; nothing from the bundle entries up to the imported names
unfoldable pub hashes_start : Description → ℕ
hashes_start d = 52 + length (batch_bytes d.texts) + 8

unfoldable pub exports_start : Description → ℕ
exports_start d = hashes_start d + 8 * length d.hashes

unfoldable pub imported_start : Description → ℕ
imported_start d = exports_start d + 72 * length d.exports

unfoldable pub header_size : Description → ℕ
header_size d = imported_start d + length (imported_bytes d.imported)

-- "public hashes, import map, export map, bundle entries, dependency headers, dependency entries, imported names"
unfoldable pub offsets_of : Description → List ℕ
offsets_of d =
    hashes_start d ∷ exports_start d ∷ exports_start d ∷ imported_start d ∷ imported_start d ∷ imported_start d ∷ imported_start d ∷ []

-- "Summary, 52 bytes: u32 versioning flag, u32 header size, mapped name, u32 package flags, u32 cooked size, seven i32 offsets"
unfoldable pub summary_bytes : ℕ → List ℕ → Description → List ℕ
summary_bytes size offsets d = le4 0 ++ le4 size ++ mapped d.name d.number ++ le4 0 ++ le4 0 ++ flat le4 offsets

-- "Then name batch, i64 bulk size, bulk bytes. Hashes and import map: u64 each"; exports, imported names
unfoldable pub content_bytes : Description → List ℕ
content_bytes d = batch_bytes d.texts ++ le8 0 ++ flat le8 d.hashes ++ flat export_bytes d.exports ++ imported_bytes d.imported

-- with some header size and offsets
unfoldable pub header_with : ℕ → List ℕ → Description → List ℕ
header_with size offsets d = summary_bytes size offsets d ++ content_bytes d

-- THE HEADER that is written
unfoldable pub header_of : Description → List ℕ
header_of d = header_with (header_size d) (offsets_of d) d

-- ---- whether it can be written

-- "a name above 32,767 units": as many as 15 bits say
abbrev pub longest_name : ℕ
longest_name = 32767

abbrev pub short : List (List ℕ) → Bool
short [] = true
short (t ∷ ts) = leb (length (encode16 t)) longest_name && short ts

-- "a header above 2,147,483,647 bytes": as many as an offset says
abbrev pub longest_header : ℕ
longest_header = 2147483647

-- no "text number outside the list", of the package and of each export; no name too long; no header too long
unfoldable pub writable : Description → Bool
writable d =
    ltb d.name (length d.texts) && named (length d.texts) d.exports && short d.texts && short (imported_texts d.imported)
    && leb (header_size d) longest_header

-- ---- what was read, as a description

-- "texts and numbers apart": a name is its base and its number, not rendered
abbrev pub paired : List (List ℕ) → List ℕ → List ImportedName
paired [] numbers = []
paired (t ∷ ts) [] = []
paired (t ∷ ts) (n ∷ numbers) = record { text = t; number = n } ∷ paired ts numbers

unfoldable pub described : Read → Description
described r = record {
  name = r.layout.summary.index;
  number = r.layout.summary.number;
  texts = r.names;
  exports = r.exports;
  hashes = r.hashes;
  imported = paired r.imported r.numbers;
}
