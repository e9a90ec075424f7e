-- The call computed: the framing's questions, the order of blocks and questions, 24's block, 25's sum, the returned number and the report
-- buffer. Each field quotes the sentence of document 01 that it shows. Assumes nothing.
use Rattle.std.specs.Prelude.{◌≡◌, List, [], ◌∷◌, ◌++◌, map, ℕ, replicate}
use Rattle.written.specs.Written.{script_index, null_index, object, script_bytes, package_bytes}
use Rattle.zen.specs.declared.tables.Export.{Export}
use Rattle.meaning.specs.Frame.{Part}
use Rattle.meaning.specs.Call.{refused_in, accepted, limits}
use Rattle.meaning.specs.Limited.{answer_within, outcome_within}
use Rattle.meaning.specs.Computed.{asked}
use Rattle.meaning.specs.Written.{corpus_from, reported}
use Rattle.meaning.specs.Examples.{least, no_objects, two_objects, plain, class_with, with_tone}

-- a corpus, byte by byte: a first length, `rest` behind the version byte
abbrev pub bytes : ℕ → ℕ → List ℕ → List ℕ
bytes n version rest = 0 ∷ 0 ∷ 0 ∷ n ∷ version ∷ rest

-- the script block of document 01's example, and no package, or one of 0 bytes with id 9
abbrev pub script_part : List ℕ
script_part = 0 ∷ 0 ∷ 0 ∷ 8 ∷ replicate 8 0

abbrev pub one_package : List ℕ
one_package = 0 ∷ 0 ∷ 0 ∷ 1 ∷ 0 ∷ 0 ∷ 0 ∷ 0 ∷ 0 ∷ 0 ∷ 0 ∷ 9 ∷ 0 ∷ 0 ∷ 0 ∷ 0 ∷ []

-- a package with this id and these exports, whose first names are `P`, `Tone_GEN_VARIABLE` and `C`; and a block that ends before its flag
abbrev pub holds : ℕ → List Export → Part
holds id exports = record {
  id = id;
  block = package_bytes (record { names = "P" ∷ "Tone_GEN_VARIABLE" ∷ "C" ∷ []; hashes = []; exports = exports; imported = [] });
}

abbrev pub short : Part
short = record { id = 9; block = [] }

-- a class of this hash
abbrev pub class : ℕ → Export
class hash = class_with (script_index 1) hash

-- a class that is a candidate too: its base ends in `_GEN_VARIABLE`
abbrev pub both : Export
both = record { index = 1; number = 0; outer = null_index; class = script_index 0; parent = script_index 1; hash = 3 }

-- an export of hash 1 that is no class
abbrev pub no_class : Export
no_class = record { index = 2; number = 0; outer = null_index; class = null_index; parent = null_index; hash = 1 }

-- four script objects, of which the first is the class of classes
abbrev pub four_objects : List ℕ
four_objects = script_bytes ("Class" ∷ []) (map (λ i. object 0 (script_index i) null_index) (0 ∷ 1 ∷ 2 ∷ 3 ∷ []))

-- four script objects, three classes, two candidates
abbrev pub weighty : List ℕ
weighty = corpus_from four_objects (holds 8 (class 1 ∷ class 2 ∷ plain 1 null_index null_index ∷ []) ∷ holds 9 (both ∷ []) ∷ [])

pub record CallExamples : Type 0 where
  -- "does its length equal 4 plus the first length, with at least the version byte? 1 (also under 4 bytes)"
  pub no_bytes : asked [] ≡ refused_in 1 0
  pub three-bytes : asked (0 ∷ 0 ∷ 0 ∷ []) ≡ refused_in 1 0
  pub no_version : asked (0 ∷ 0 ∷ 0 ∷ 0 ∷ []) ≡ refused_in 1 0
  pub first-length-less : asked (bytes 16 1 (script_part ++ replicate 4 0)) ≡ refused_in 1 0
  pub first-length-more : asked (bytes 18 1 (script_part ++ replicate 4 0)) ≡ refused_in 1 0
  -- "Version 1? 2", behind the first length and before all else
  pub version-later : asked (bytes 2 2 []) ≡ refused_in 1 0
  pub version_0 : asked (bytes 1 0 []) ≡ refused_in 2 0
  -- "Does every further part lie inside and the last end with the corpus? 1": the script block, the package count, the id, the length, the
  -- block; a byte left over
  pub no_script : asked (bytes 1 1 []) ≡ refused_in 1 0
  pub script-outside : asked (bytes 12 1 (0 ∷ 0 ∷ 0 ∷ 8 ∷ replicate 7 0)) ≡ refused_in 1 0
  pub no_count : asked (bytes 13 1 script_part) ≡ refused_in 1 0
  pub no_package : asked (bytes 17 1 (script_part ++ 0 ∷ 0 ∷ 0 ∷ 1 ∷ [])) ≡ refused_in 1 0
  pub package_outside : asked (bytes 29 1 (script_part ++ 0 ∷ 0 ∷ 0 ∷ 1 ∷ replicate 8 0 ++ 0 ∷ 0 ∷ 0 ∷ 1 ∷ [])) ≡ refused_in 1 0
  pub byte-over : asked (bytes 18 1 (script_part ++ replicate 5 0)) ≡ refused_in 1 0
  -- "Block 0 is the corpus, 1 the script block, j + 1 package j (from 1)"; "are its bytes there? 3"
  pub one_package_lem : asked (bytes 29 1 (script_part ++ one_package)) ≡ refused_in 3 2
  -- "Corpus, before any block"; "Then the blocks in corpus order, each to its end"
  pub corpus-first : asked (bytes 10 1 (replicate 9 0)) ≡ refused_in 1 0
  pub script-block : asked (corpus_from [] (short ∷ [])) ≡ refused_in 3 1
  pub first_of-two : asked (corpus_from no_objects (short ∷ short ∷ [])) ≡ refused_in 3 2
  pub third_package : asked (corpus_from no_objects (holds 8 [] ∷ holds 9 [] ∷ short ∷ [])) ≡ refused_in 3 4
  -- "Then: no class key twice? 24 (block of the first class, in package and export order, whose key an earlier one has)": behind all blocks,
  -- within one package, and whatever the buffers; an export of that hash that is no class, or that hash under another id, is none
  pub blocks-before_24 : asked (corpus_from two_objects (holds 8 (class 1 ∷ class 1 ∷ []) ∷ short ∷ [])) ≡ refused_in 3 3
  pub key_twice-within : asked (corpus_from two_objects (holds 8 (class 1 ∷ []) ∷ holds 9 (class 1 ∷ class 2 ∷ class 1 ∷ []) ∷ [])) ≡ refused_in 24 3
  pub key_twice-first : answer_within limits (corpus_from two_objects (holds 8 (class 1 ∷ class 1 ∷ []) ∷ [])) 0 0 ≡ refused_in 24 2
  pub key_of-no_class : asked (corpus_from two_objects (holds 9 (class 1 ∷ no_class ∷ []) ∷ [])) ≡ accepted (reported "P" 2 [])
  -- "Work at least 64 × (script objects + classes + candidates) bytes? 25"; "One export may be class and candidate"
  pub work_575 : answer_within limits weighty 575 0 ≡ refused_in 25 0
  pub work_576 : answer_within limits weighty 576 0 ≡ refused_in 26 0
  -- "Accepted: the report's length. Refused: bit 63 set, the refusal in bits 32 to 39, the block in bits 0 to 31, all else 0"; "bytes past the
  -- report and the whole buffer on refusal being unchanged, and only the work buffer's final bytes are free"
  pub accepted-outcome :
      outcome_within limits (least 1) [] (replicate 11 7) ≡ record { number = 9; report = 0 ∷ 0 ∷ 0 ∷ 5 ∷ 1 ∷ 0 ∷ 0 ∷ 0 ∷ 0 ∷ 7 ∷ 7 ∷ [] }
  pub refused-outcome : outcome_within limits (least 1) [] (replicate 8 7) ≡ record { number = 0x8000_001A_0000_0000; report = replicate 8 7 }
  pub refused-block :
      outcome_within limits (corpus_from no_objects (short ∷ [])) [] (7 ∷ []) ≡ record { number = 0x8000_0003_0000_0002; report = 7 ∷ [] }
  pub work-counts :
      outcome_within limits (corpus_from no_objects (record { id = 9; block = with_tone [] null_index } ∷ [])) (replicate 63 7) (replicate 200 7)
      ≡ record { number = 0x8000_0019_0000_0000; report = replicate 200 7 }
