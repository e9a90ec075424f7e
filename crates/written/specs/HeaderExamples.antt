-- Headers written, computed: document 01's 91 bytes, the least header, a full one there and back, names at the edges of Latin-1 and of the pairs, and
-- the longest name. Assumes nothing.
use Rattle.std.specs.Prelude.{◌≡◌, refl, true, false, List, [], ◌∷◌, ◌++◌, map, ℕ, ◌+◌, length, replicate}
use Prim.Native.String.{String}
use Rattle.base.specs.Literal.{quoted as text}
use Rattle.text.specs.Name.{decoded}
use Rattle.base.specs.Number.{be_bytes, le_bytes}
use Rattle.base.specs.Reading.{Out, refused, gives, run_block, rows}
use Rattle.base.specs.Signed.{twos}
use Rattle.text.specs.Utf16.{utf16, units, encode_one, encode16}
use Rattle.batch.specs.Batch.{batch, no_names, some_names, body, head, head_of, strings}
use Rattle.written.specs.BatchBytes.{string_bytes, head_bytes, some_bytes, batch_bytes}
use Rattle.written.specs.HeaderBytes.{Description, export_bytes, imported_bytes, hashes_start, exports_start, imported_start, header_size, offsets_of}
use Rattle.written.specs.HeaderBytes.{summary_bytes, content_bytes, header_with, header_of, short, writable, described}
use Rattle.zen.specs.Zen.{Read, lead, header, content, imports, tables, summary, offset, ordered, bulk, export, package_block}

-- these names, of which the first is the package's, and no more
abbrev pub named : List String → Description
named names = record { name = 0; number = 0; texts = map text names; exports = []; hashes = []; imported = [] }

-- "Package named `A`, all offsets 87, header 91"
abbrev pub header_A : List ℕ
header_A =
    (0 ∷ 0 ∷ 0 ∷ 0 ∷ 91 ∷ 0 ∷ 0 ∷ 0 ∷ [])  -- flag, header size
    ++ replicate 16 0  -- name, package flags, cooked size
    ++ (87 ∷ 0 ∷ 0 ∷ 0 ∷ 87 ∷ 0 ∷ 0 ∷ 0 ∷ 87 ∷ 0 ∷ 0 ∷ 0 ∷ 87 ∷ 0 ∷ 0 ∷ 0 ∷ 87 ∷ 0 ∷ 0 ∷ 0 ∷ 87 ∷ 0 ∷ 0 ∷ 0 ∷ 87 ∷ 0 ∷ 0 ∷ 0 ∷ [])
    ++ (1 ∷ 0 ∷ 0 ∷ 0 ∷ 1 ∷ 0 ∷ 0 ∷ 0 ∷ 0 ∷ 0 ∷ 0x64 ∷ 0xC1 ∷ 0 ∷ 0 ∷ 0 ∷ 0 ∷ [])  -- count, string length, hash version
    ++ (0 ∷ 0 ∷ 0 ∷ 0 ∷ 0 ∷ 0 ∷ 0 ∷ 0 ∷ 0 ∷ 1 ∷ 0x41 ∷ [])  -- hash, header, string
    ++ replicate 8 0  -- bulk size
    ++ replicate 4 0  -- no imported names

-- all lists filled
abbrev pub full : Description
full = record {
  name = 1;
  number = 7;
  texts = text "A" ∷ text "Ā😀" ∷ [] ∷ text "A" ∷ [];
  exports =
      record { index = 3; number = 1; outer = 2; class = 3; parent = 4; hash = 0xFFFF_FFFF_FFFF_FFFF }
      ∷ record { index = 0; number = 0; outer = 0x8000_0000_0000_0001; class = 0; parent = 0; hash = 5 } ∷ [];
  hashes = 8 ∷ 9 ∷ 10 ∷ [];
  imported = record { text = text "/É"; number = 0xFFFF_FFFF } ∷ record { text = text "/Ÿ"; number = 0 } ∷ [];
}

-- what was read, described
abbrev read_again : Out Read → List Description
read_again (refused q) = []
read_again (gives r) = described r ∷ []

-- with this text number of the package, and of its one export
abbrev numbered : ℕ → ℕ → Description
numbered name export = record {
  name = name;
  number = 0;
  texts = text "A" ∷ text "B" ∷ [];
  exports = record { index = export; number = 0; outer = 0; class = 0; parent = 0; hash = 0 } ∷ [];
  hashes = [];
  imported = [];
}

pub record HeaderExamples : Type 0 where
  pub header_91 : header_of (named ("A" ∷ [])) ≡ header_A
  pub length_91 : length header_A ≡ 91
  -- one name, which is empty
  pub least : length (header_of (named ("" ∷ []))) ≡ 90
  pub full_back : read_again (run_block package_block (header_of full)) ≡ full ∷ []
  pub full_size : length (header_of full) ≡ 52 + (16 + 40 + 8) + 8 + 24 + 144 + (16 + 20 + 6) + 8
  pub full_offsets : offsets_of full ≡ 124 ∷ 148 ∷ 148 ∷ 292 ∷ 292 ∷ 292 ∷ 292 ∷ []
  -- 72 bytes: serial fields, name, outer, class, super, template, public hash, flags and filter
  pub export_72 : export_bytes (record { index = 0x01020304; number = 5; outer = 6; class = 0x0700; parent = 8; hash = 9 })
      ≡ replicate 16 0 ++ (4 ∷ 3 ∷ 2 ∷ 1 ∷ 5 ∷ 0 ∷ 0 ∷ 0 ∷ []) ++ (6 ∷ replicate 7 0) ++ (0 ∷ 7 ∷ replicate 6 0) ++ (8 ∷ replicate 7 0) ++ replicate 8 0
      ++ (9 ∷ replicate 7 0) ++ replicate 8 0
  -- U+00FF is the last of Latin-1, U+0100 is wide, and so is what stands beside it; a pair counts 2; length in units, its high byte first
  pub heads : map head_bytes (text "ÿ" ∷ text "Ā" ∷ text "AĀ" ∷ text "😀" ∷ [] ∷ replicate 300 0x41 ∷ [])
      ≡ (0 ∷ 1 ∷ []) ∷ (0x80 ∷ 1 ∷ []) ∷ (0x80 ∷ 2 ∷ []) ∷ (0x80 ∷ 2 ∷ []) ∷ (0 ∷ 0 ∷ []) ∷ (1 ∷ 44 ∷ []) ∷ []
  pub strings_of : map string_bytes (text "ÿ" ∷ text "Ā" ∷ text "AĀ" ∷ text "😀" ∷ [])
      ≡ (0xFF ∷ []) ∷ (0 ∷ 1 ∷ []) ∷ (0x41 ∷ 0 ∷ 0 ∷ 1 ∷ []) ∷ (0x3D ∷ 0xD8 ∷ 0 ∷ 0xDE ∷ []) ∷ []
  -- "a text number outside the list"
  pub numbers : map writable (numbered 1 1 ∷ numbered 2 1 ∷ numbered 1 2 ∷ named [] ∷ []) ≡ true ∷ false ∷ false ∷ false ∷ []
  -- "a name above 32,767 units"
  pub longest :
      map short ((replicate 32767 0x41 ∷ []) ∷ (replicate 32768 0x41 ∷ []) ∷ ((0x41 ∷ replicate 16383 0x10000) ∷ []) ∷ (replicate 16384 0x10000 ∷ []) ∷ [])
      ≡ true ∷ false ∷ true ∷ false ∷ []

pub header-examples : HeaderExamples
unfolding be_bytes le_bytes encode_one encode16 utf16 units decoded twos rows string_bytes head_bytes some_bytes batch_bytes export_bytes imported_bytes hashes_start
    exports_start imported_start header_size offsets_of summary_bytes content_bytes header_with header_of writable described run_block batch no_names some_names body
    head head_of strings lead header content imports tables summary offset ordered bulk export
header-examples = record {
  header_91 = refl;
  length_91 = refl;
  least = refl;
  full_back = refl;
  full_size = refl;
  full_offsets = refl;
  export_72 = refl;
  heads = refl;
  strings_of = refl;
  numbers = refl;
  longest = refl;
}
