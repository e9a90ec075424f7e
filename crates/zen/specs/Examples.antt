-- Blocks written out and read, by computation.
use Rattle.std.specs.Prelude.{◌≡◌, refl, Bool, true, false, cond, List, [], ◌∷◌, ◌++◌, map, ℕ, zero, suc, ◌+◌, ◌*◌, ◌/◌, ◌%◌, length, replicate}
use Rattle.text.specs.Digits.{decimal, digits}
use Rattle.text.specs.Name.{decoded}
use Rattle.base.specs.Reading.{Out, refused, gives, run, run_block, rows}
use Rattle.base.specs.ReadingMarks.{Mark, whole, low, none, marks, marks_block}
use Rattle.base.specs.Signed.{twos}
use Rattle.text.specs.Utf16.{utf16, units}
use Rattle.batch.specs.Batch.{batch, no_names, some_names, body, head, head_of, strings}
use Rattle.scriptblock.specs.Script.{Objects, entry, entries, opening, script, object_name}
use Rattle.zen.specs.Listed.{name_marks, batch_marks, entry_marks, summary_marks, export_marks, script_marks, table_marks, header_marks, package_marks}
use Rattle.zen.specs.Zen.{Read, package_block, lead, header, content, imports, tables, summary, offset, ordered, bulk, export, export_name, imported_name, package_name}

-- ---- how the blocks are written

-- n in k bytes, little-endian
abbrev field : ℕ → ℕ → List ℕ
field zero n = []
field (suc k) n = n % 256 ∷ field k (n / 256)

abbrev fields : ℕ → List ℕ → List ℕ
fields k [] = []
fields k (n ∷ ns) = field k n ++ fields k ns

-- a name: whether it is UTF-16, and its bytes
record Text : Type 0 where
  wide : Bool
  part : List ℕ

abbrev heads : List Text → List ℕ
heads [] = []
heads (t ∷ ts) = cond t.wide 128 0 ∷ cond t.wide (length t.part / 2) (length t.part) ∷ heads ts

abbrev parts : List Text → List ℕ
parts [] = []
parts (t ∷ ts) = t.part ++ parts ts

-- a batch of short names, its hash bytes 7
abbrev batch_of : List Text → List ℕ
batch_of [] = field 4 0
batch_of (t ∷ ts) =
    let l = t ∷ ts in
    field 4 (length l) ++ field 4 (length (parts l)) ++ field 8 0xC1640000 ++ replicate (8 * length l) 7 ++ heads l ++ parts l

-- a package: header size, name (index and number), offsets, and what follows; package flags and cooked size are 7
abbrev package_of : ℕ → ℕ → ℕ → List ℕ → List ℕ → List ℕ
package_of size index number offsets rest = field 4 0 ++ field 4 size ++ field 4 index ++ field 4 number ++ replicate 8 7 ++ fields 4 offsets ++ rest

-- a script entry: name, global index, outer; class default object 7
abbrev entry_of : ℕ → ℕ → ℕ → ℕ → List ℕ
entry_of index number global outer = field 4 index ++ field 4 number ++ field 8 global ++ field 8 outer ++ replicate 8 7

-- ---- a package with the name A

abbrev text_A : Text
text_A = record { wide = false; part = 65 ∷ [] }

-- a batch with the name A, no bulk bytes, a batch of 0
abbrev content_A : List ℕ
content_A = batch_of (text_A ∷ []) ++ field 8 0 ++ batch_of []

abbrev package_A : ℕ → List ℕ
package_A size = package_of size 0 0 (replicate 7 87) content_A

pub accepted_A : run_block package_block (package_A 91) ≡ gives (record {
  layout = record {
    size = 91;
    summary = record { index = 0; number = 0; hashes = 87; imports = 87; exports = 87; bundles = 87; headers = 87; entries = 87; imported = 87 };
    names = record { count = 1; headers = 76; strings = 78; «end» = 79 };
    imported = record { count = 0; headers = 91; strings = 91; «end» = 91 };
  };
  names = (65 ∷ []) ∷ [];
  hashes = [];
  exports = [];
  imported = [];
  numbers = [];
})
unfolding run_block rows twos decoded batch no_names some_names body head head_of strings lead header content imports tables summary offset ordered bulk export
accepted_A = refl

-- ---- the first question that fails

abbrev refusal : {A : Type 0} → Out A → ℕ
refusal (refused e) = e
refusal (gives a) = 0

-- a batch of n names: its string length, version, hash bytes, headers, strings
abbrev raw_batch : ℕ → ℕ → ℕ → List ℕ → List ℕ → List ℕ
raw_batch n room version headers rest = field 4 n ++ field 4 room ++ field 8 version ++ replicate (8 * n) 7 ++ headers ++ rest

abbrev refused_batches : List (ℕ × List ℕ)
refused_batches =
    (3, field 4 1 ++ field 4 1 ++ field 4 0xC1640000) ∷  -- half a version
    (4, field 4 1 ++ field 4 1 ++ field 8 0xC1640001) ∷  -- another version, and the hash bytes are missing
    (4, field 4 1 ++ field 4 1 ++ field 8 0xC163FFFF) ∷
    (4, field 4 1 ++ field 4 1 ++ field 8 0x1C1640000) ∷
    (3, field 4 1 ++ field 4 1 ++ field 8 0xC1640000 ++ replicate 7 7) ∷  -- 7 hash bytes
    (3, raw_batch 1 1 0xC1640000 (0 ∷ []) []) ∷  -- half a header
    (3, raw_batch 1 2 0xC1640000 (0 ∷ 1 ∷ []) (65 ∷ [])) ∷  -- string length 2, one byte is there
    (5, raw_batch 1 1 0xC1640000 (0 ∷ 2 ∷ []) (65 ∷ [])) ∷  -- a name of 2 bytes in 1
    (5, raw_batch 1 1 0xC1640000 (128 ∷ 1 ∷ []) (65 ∷ 0 ∷ [])) ∷  -- a unit in 1 byte
    (6, raw_batch 1 2 0xC1640000 (128 ∷ 1 ∷ []) (0x3D ∷ 0xD8 ∷ [])) ∷  -- a surrogate by itself
    (6, raw_batch 2 4 0xC1640000 (128 ∷ 1 ∷ 128 ∷ 1 ∷ []) (0x3D ∷ 0xD8 ∷ 0x00 ∷ 0xDE ∷ [])) ∷  -- a pair split over two names
    (6, raw_batch 2 2 0xC1640000 (128 ∷ 1 ∷ 0 ∷ 9 ∷ []) (0x3D ∷ 0xD8 ∷ [])) ∷  -- a bad name 0, then 5 of name 1
    (5, raw_batch 2 3 0xC1640000 (0 ∷ 1 ∷ 128 ∷ 2 ∷ []) (65 ∷ 0x3D ∷ 0xD8 ∷ [])) ∷  -- the strings left are counted
    (7, raw_batch 1 2 0xC1640000 (0 ∷ 1 ∷ []) (65 ∷ 66 ∷ [])) ∷  -- a string byte is left
    []

pub batch-refusals : map (λ c. refusal (run batch 0 c.1)) refused_batches ≡ map (λ c. c.0) refused_batches
unfolding rows decoded utf16 units batch no_names some_names body head head_of strings
batch-refusals = refl

-- a bulk size and one bulk byte, up to the public hashes
abbrev bulk_A : ℕ → List ℕ
bulk_A z = package_of 92 0 0 (replicate 7 88) (batch_of (text_A ∷ []) ++ field 8 z ++ 7 ∷ [] ++ batch_of [])

-- an export with this name; all else 0
abbrev export_of : ℕ → List ℕ
export_of index = replicate 16 0 ++ field 4 index ++ replicate 52 0

-- one export with this name, and what stands for the imported names
abbrev export_A : ℕ → List ℕ → List ℕ
export_A index imported =
    package_of (159 + length imported) 0 0 (87 ∷ 87 ∷ 87 ∷ 159 ∷ 159 ∷ 159 ∷ 159 ∷ [])
    (batch_of (text_A ∷ []) ++ field 8 0 ++ export_of index ++ imported)

-- with these offsets, the last of them the header's end less 4; the bytes after the bulk size are 0
abbrev offsets_A : List ℕ → ℕ → List ℕ
offsets_A offsets n = package_of (91 + n) 0 0 offsets (batch_of (text_A ∷ []) ++ field 8 0 ++ replicate n 0 ++ batch_of [])

-- named `index`, with these imported names, whose numbers are 0
abbrev imports_A : ℕ → List Text → List ℕ
imports_A index ts =
    let imported = batch_of ts ++ replicate (4 * length ts) 0 in
    package_of (87 + length imported) index 0 (replicate 7 87) (batch_of (text_A ∷ []) ++ field 8 0 ++ imported)

-- é, in one byte and in UTF-16; half a surrogate pair
abbrev text_é : Bool → Text
text_é w = record { wide = w; part = cond w (0xE9 ∷ 0x00 ∷ []) (0xE9 ∷ []) }

abbrev text-half : Text
text-half = record { wide = true; part = 0x3D ∷ 0xD8 ∷ [] }

-- the refusal, and the block
abbrev refused-packages : List (ℕ × List ℕ)
refused-packages =
    (3, field 3 0) ∷  -- no whole flag
    (14, field 4 1) ∷  -- flag 1, and there is no header size
    (3, field 4 0 ++ field 3 0) ∷  -- no whole header size
    (3, package_A 51) ∷  -- the header ends in the last offset
    (15, package_A 92) ∷  -- header 92 in 91 bytes
    (16, package_of 91 0 0 (51 ∷ replicate 5 87 ++ 0x80000000 ∷ []) content_A) ∷  -- the seventh offset is negative, the first under 52
    (17, package_of 91 0 0 (51 ∷ replicate 6 87) content_A) ∷  -- the first under 52
    (19, package_of 91 0 0 (52 ∷ replicate 6 87) content_A) ∷  -- 52 is in order
    (17, package_of 91 0 0 (88 ∷ replicate 6 87) content_A) ∷  -- one above its successor
    (17, package_of 91 0 0 (87 ∷ 88 ∷ replicate 5 87) content_A) ∷
    (17, package_of 91 0 0 (replicate 2 87 ++ 88 ∷ replicate 4 87) content_A) ∷
    (17, package_of 91 0 0 (replicate 3 87 ++ 88 ∷ replicate 3 87) content_A) ∷
    (17, package_of 91 0 0 (replicate 4 87 ++ 88 ∷ replicate 2 87) content_A) ∷
    (17, package_of 91 0 0 (replicate 5 87 ++ 88 ∷ 87 ∷ []) content_A) ∷
    (17, package_of 91 0 0 (replicate 6 87 ++ 92 ∷ []) content_A) ∷  -- the last above the header size
    (4, package_of 91 0 0 (replicate 7 91) (raw_batch 1 1 0xC1640001 (0 ∷ 1 ∷ []) (65 ∷ []) ++ field 8 0 ++ batch_of [])) ∷  -- in the package's batch
    (20, offsets_A (87 ∷ replicate 6 91) 4) ∷  -- 4 bytes of public hashes
    (20, offsets_A (87 ∷ 87 ∷ replicate 5 91) 4) ∷  -- 4 bytes of import map
    (21, offsets_A (87 ∷ 87 ∷ 87 ∷ replicate 4 95) 8) ∷  -- 8 bytes of exports
    (10, export_A 1 (field 4 1)) ∷  -- an export's name 1 of one, before the imported names
    (3, export_A 0 (field 4 1)) ∷
    (10, package_of 68 0 0 (replicate 7 64) (batch_of [] ++ field 8 0 ++ batch_of [])) ∷  -- a batch of 0, so there is no name 0
    (18, package_of 80 0 0 (replicate 7 76) (batch_of [] ++ field 4 0 ++ field 8 0xC1640000 ++ field 8 0 ++ batch_of [])) ∷  -- the same with a version
    (3, bulk_A 100) ∷  -- bulk bytes past the header
    (19, bulk_A 0) ∷  -- bulk bytes that end before the public hashes
    (22, package_of 92 1 0 (replicate 7 87) (content_A ++ 0 ∷ [])) ∷  -- a byte is left, and there is no name 1
    (10, package_of 91 1 0 (replicate 7 87) content_A) ∷  -- there is no name 1
    (3, package_of 114 0 0 (replicate 7 87) (batch_of (text_A ∷ []) ++ field 8 0 ++ batch_of (text_A ∷ []))) ∷  -- no number for the imported name
    (6, imports_A 1 (text_é true ∷ text-half ∷ [])) ∷  -- an imported name that is no text, and there is no name 1
    (10, imports_A 1 (text_é false ∷ [])) ∷
    (0, imports_A 0 (text_A ∷ text_é false ∷ [])) ∷  -- imported names beyond ASCII are names
    (0, imports_A 0 (text_é true ∷ text_A ∷ [])) ∷
    (0, imports_A 0 (text_A ∷ text_A ∷ [])) ∷
    (0, package_of 92 0 0 (replicate 6 87 ++ 88 ∷ []) (batch_of (text_A ∷ []) ++ field 8 0 ++ 7 ∷ [] ++ batch_of [])) ∷
    []

pub package_refusals : map (λ c. refusal (run_block package_block c.1)) refused-packages ≡ map (λ c. c.0) refused-packages
unfolding run_block rows twos decoded utf16 units batch no_names some_names body head head_of strings lead header content imports tables summary offset ordered bulk export
package_refusals = refl

-- ---- a package with everything

-- U+1F600 is a surrogate pair
abbrev text_face : Text
text_face = record { wide = true; part = 0x3D ∷ 0xD8 ∷ 0x00 ∷ 0xDE ∷ [] }

-- B, UTF-16
abbrev text_B : Text
text_B = record { wide = true; part = 66 ∷ 0 ∷ [] }

-- names A, U+1F600 and A; 3 bulk bytes; two hashes; one import; one export; 5 bytes of bundle entries and dependencies; imported name B, number 2
abbrev pub large-bytes : List ℕ
large-bytes =
    package_of 248 0xC0000002 1 (115 ∷ 131 ∷ 139 ∷ 211 ∷ 213 ∷ 213 ∷ 216 ∷ []) (batch_of (text_A ∷ text_face ∷ text_A ∷ [])
    ++ field 8 3 ++ replicate 3 7
    ++ fields 8 (5 ∷ 6 ∷ []) ++ field 8 7
    ++ replicate 16 7 ++ field 4 0x40000001 ++ field 4 3 ++ fields 8 (10 ∷ 11 ∷ 12 ∷ []) ++ replicate 8 7 ++ field 8 13 ++ replicate 8 7
    ++ replicate 5 7
    ++ batch_of (text_B ∷ []) ++ field 4 2)
    ++ replicate 2 7

abbrev pub large : Read
large = record {
  layout = record {
    size = 248;
    summary = record { index = 2; number = 1; hashes = 115; imports = 131; exports = 139; bundles = 211; headers = 213; entries = 213; imported = 216 };
    names = record { count = 3; headers = 92; strings = 98; «end» = 104 };
    imported = record { count = 1; headers = 240; strings = 242; «end» = 244 };
  };
  names = (65 ∷ []) ∷ (0x1F600 ∷ []) ∷ (65 ∷ []) ∷ [];
  hashes = 5 ∷ 6 ∷ [];
  exports = record { index = 1; number = 3; outer = 10; class = 11; parent = 12; hash = 13 } ∷ [];
  imported = (66 ∷ []) ∷ [];
  numbers = 2 ∷ [];
}

pub accepted-large : run_block package_block large-bytes ≡ gives large
unfolding run_block rows twos decoded utf16 units batch no_names some_names body head head_of strings lead header content imports tables summary offset ordered bulk export
accepted-large = refl

-- A_0, U+1F600 and _2, B_1
pub rendered-large : package_name large ∷ map (export_name large) large.exports ++ imported_name large 0 ∷ []
    ≡ (65 ∷ 95 ∷ 48 ∷ []) ∷ (0x1F600 ∷ 95 ∷ 50 ∷ []) ∷ (66 ∷ 95 ∷ 49 ∷ []) ∷ []
unfolding decimal digits
rendered-large = refl

-- so many bytes with this mark
abbrev shown : List (ℕ × Mark) → List Mark
shown [] = []
shown (r ∷ rs) = replicate r.0 r.1 ++ shown rs

-- what document 01 lists under "Passed over" has no mark
abbrev large-counts : List (ℕ × Mark)
large-counts =
    (8, whole) ∷  -- versioning flag, header size
    (3, whole) ∷ (1, low 6) ∷ (4, whole) ∷  -- package name
    (8, none) ∷  -- package flags, cooked size
    (28, whole) ∷  -- offsets
    (16, whole) ∷ (24, none) ∷ (6, whole) ∷ (6, whole) ∷  -- names: hash bytes
    (8, whole) ∷ (3, none) ∷  -- bulk size, bulk bytes
    (16, whole) ∷ (8, none) ∷  -- public hashes, import map values
    (16, none) ∷ (3, whole) ∷ (1, low 6) ∷ (4, whole) ∷ (24, whole) ∷ (8, none) ∷ (8, whole) ∷ (8, none) ∷  -- export
    (5, none) ∷  -- from the bundle entries up to the imported names
    (16, whole) ∷ (8, none) ∷ (2, whole) ∷ (2, whole) ∷ (4, whole) ∷  -- imported names and numbers
    (2, none) ∷  -- past the header size
    []

pub large-marks : marks_block package_block large-bytes ≡ shown large-counts
unfolding marks_block rows twos decoded utf16 units batch no_names some_names body head head_of strings lead header content imports tables summary offset ordered bulk export
large-marks = refl

-- ---- script blocks

-- no name, no object: the script block of document 01's first example
pub empty-script : run script 0 (replicate 8 0) ≡ gives (record {
  layout = record { names = record { count = 0; headers = 4; strings = 4; «end» = 4 }; count = 0; entries = 8 };
  names = [];
  entries = [];
})
unfolding rows twos decoded batch no_names some_names body head head_of strings script opening entries entry
empty-script = refl

-- the object A, its outer null, and A_0 in it
abbrev outer_A : List ℕ
outer_A = entry_of 0 0 0x4000000000000001 0xFFFFFFFFFFFFFFFF

abbrev pub inner_A : ℕ → List ℕ
inner_A global = entry_of 0x80000000 1 global 0x4000000000000001

abbrev pub two : List ℕ → List ℕ
two rest = batch_of (text_A ∷ []) ++ field 4 2 ++ outer_A ++ rest

abbrev pub two_objects_lem : Objects
two_objects_lem = record {
  layout = record { names = record { count = 1; headers = 24; strings = 26; «end» = 27 }; count = 2; entries = 31 };
  names = (65 ∷ []) ∷ [];
  entries =
      record { index = 0; number = 0; global = 0x4000000000000001; outer = 0xFFFFFFFFFFFFFFFF } ∷
      record { index = 0; number = 1; global = 0x4000000000000002; outer = 0x4000000000000001 } ∷
      [];
}

pub accepted-two : run script 0 (two (inner_A 0x4000000000000002)) ≡ gives two_objects_lem
unfolding rows twos decoded batch no_names some_names body head head_of strings script opening entries entry
accepted-two = refl

pub rendered-two : map (object_name two_objects_lem) two_objects_lem.entries ≡ (65 ∷ []) ∷ (65 ∷ 95 ∷ 48 ∷ []) ∷ []
unfolding decimal digits
rendered-two = refl

abbrev refused-scripts : List (ℕ × List ℕ)
refused-scripts =
    (8, batch_of [] ++ field 4 0x80000000) ∷  -- a negative count
    (9, batch_of [] ++ field 4 0x7FFFFFFF) ∷  -- one that is not
    (9, two []) ∷  -- 32 bytes for two entries
    (9, two (replicate 31 0)) ∷
    (10, two (entry_of 1 0 1 0)) ∷  -- there is no name 1; its index has kind 0 too
    (11, two (inner_A 1)) ∷  -- an index of kind 0
    (12, two (inner_A 0x4000000000000001)) ∷  -- an index again
    (12, batch_of (text_A ∷ []) ++ field 4 3 ++ outer_A ++ inner_A 0x4000000000000002 ++ outer_A) ∷  -- that of the last but one
    (12, batch_of (text_A ∷ []) ++ field 4 3 ++ outer_A ++ outer_A ++ entry_of 1 0 0 0) ∷  -- before 10 of the next entry
    (13, two (inner_A 0x4000000000000002 ++ 0 ∷ [])) ∷  -- a byte is left
    []

pub script-refusals : map (λ c. refusal (run script 0 c.1)) refused-scripts ≡ map (λ c. c.0) refused-scripts
unfolding rows twos decoded batch no_names some_names body head head_of strings script opening entries entry
script-refusals = refl

abbrev two-counts : List (ℕ × Mark)
two-counts =
    (16, whole) ∷ (8, none) ∷ (2, whole) ∷ (1, whole) ∷  -- names: hash bytes
    (4, whole) ∷  -- count
    (3, whole) ∷ (1, low 6) ∷ (4, whole) ∷ (16, whole) ∷ (8, none) ∷  -- class default object
    (3, whole) ∷ (1, low 6) ∷ (4, whole) ∷ (16, whole) ∷ (8, none) ∷
    []

pub two-marks : marks script 0 (two (inner_A 0x4000000000000002)) ≡ shown two-counts
unfolding rows twos decoded batch no_names some_names body head head_of strings script opening entries entry
two-marks = refl

-- ---- the list by itself gives the same marks

pub record Marks : Type 0 where
  pub of_large : package_marks large.layout (length large-bytes) ≡ shown large-counts
  pub of_two : script_marks two_objects_lem.layout ≡ shown two-counts
  pub of_no_names : batch_marks (record { count = 0; headers = 4; strings = 4; «end» = 4 }) ≡ replicate 4 whole

pub listed : Marks
unfolding package_marks header_marks summary_marks batch_marks table_marks export_marks script_marks entry_marks name_marks
listed = record { of_large = refl; of_two = refl; of_no_names = refl }
