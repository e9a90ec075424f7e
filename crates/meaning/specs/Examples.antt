-- Document 01's "Table of proved examples" and "Mistaken readings": one theorem about the definitions, by computation. Assumes nothing.
use Rattle.std.specs.Prelude.{◌≡◌, List, [], ◌∷◌, ◌++◌, ℕ, zero, suc, ◌+◌, length, replicate}
use Prim.Native.String.{String, ◌++◌ as ◌then◌}
use Rattle.base.specs.House.{length_first}
use Rattle.base.specs.Literal.{quoted as text}
use Rattle.city.specs.City.{k2}
use Rattle.ids.specs.Id.{id_of}
use Rattle.text.specs.Name.{suffix}
use Rattle.written.specs.BatchBytes.{le4, le8}
use Rattle.written.specs.Written.{script_index, null_index, object, script_bytes, package_with, package_bytes}
use Rattle.zen.specs.declared.tables.Export.{Export}
use Rattle.meaning.specs.Call.{refused_in, accepted, number_of, limits}
use Rattle.meaning.specs.Limited.{answer_within}
use Rattle.meaning.specs.Computed.{asked}
use Rattle.meaning.specs.Written.{corpus_from, corpus_of, reported, texts}

-- "`00 00 00 11 01 00 00 00 08` + 12 zero bytes", with its version
abbrev pub least : ℕ → List ℕ
least version = 0 ∷ 0 ∷ 0 ∷ 17 ∷ version ∷ 0 ∷ 0 ∷ 0 ∷ 8 ∷ replicate 12 0

-- a script block without names and objects, and one with two: the class of classes, and a native class
abbrev pub no_objects : List ℕ
no_objects = script_bytes [] []

abbrev pub two_objects : List ℕ
two_objects = script_bytes ("Class" ∷ "Speaker" ∷ []) (object 0 (script_index 0) null_index ∷ object 1 (script_index 1) null_index ∷ [])

-- a package named `A`, with this header size, and the 21 bytes of its section
abbrev pub named_a : ℕ → List ℕ
named_a size = package_with size (replicate 7 87) (record { names = "A" ∷ []; hashes = []; exports = []; imported = [] })

abbrev pub section_a : List ℕ
section_a = 0 ∷ 0 ∷ 0 ∷ 0 ∷ 0 ∷ 0 ∷ 0 ∷ 9 ∷ 0 ∷ 0 ∷ 0 ∷ 1 ∷ 65 ∷ 0 ∷ 0 ∷ 0 ∷ 0 ∷ 0 ∷ 0 ∷ 0 ∷ 0 ∷ []

-- an export with this name of the batch, outer and class, and no more
abbrev pub plain : ℕ → ℕ → ℕ → Export
plain name outer class = record { index = name; number = 0; outer = outer; class = class; parent = null_index; hash = 0 }

-- a package `P` with some exports named `C`, then a candidate named `Tone` that has this class
abbrev pub with_tone : List Export → ℕ → List ℕ
with_tone classes class =
    package_bytes (record { names = "P" ∷ "Tone_GEN_VARIABLE" ∷ "C" ∷ []; hashes = []; exports = classes ++ plain 1 null_index class ∷ []; imported = [] })

-- its row: class kind, known flags, and the texts of class, native class and reference; and the report on it
abbrev pub tone_row : ℕ → ℕ → ℕ → String → String → String → List ℕ
tone_row kind class native class_text native_text reference =
    length_first (1 ∷ 1 ∷ 0 ∷ kind ∷ class ∷ native ∷ texts ("Tone" ∷ "Tone_GEN_VARIABLE" ∷ "" ∷ class_text ∷ native_text ∷ reference ∷ []))

abbrev pub tone_report : ℕ → ℕ → ℕ → ℕ → String → String → String → List ℕ
tone_report exports kind class native class_text native_text reference = reported "P" exports (tone_row kind class native class_text native_text reference ∷ [])

-- n script objects named by the batch's first name, the outer of each being the next, and the index of the innermost (null where n is 0)
abbrev pub innermost : ℕ → ℕ
innermost zero = null_index
innermost (suc n) = script_index n

abbrev pub nested : ℕ → List (List ℕ)
nested zero = []
nested (suc n) = object 0 (script_index n) (innermost n) ∷ nested n

-- n classes, the super of each being the one before it, and of the first a native class; the index of the last (of the native class where n is 0)
abbrev pub last_of : ℕ → ℕ
last_of zero = script_index 1
last_of (suc n) = n

abbrev pub class_with : ℕ → ℕ → Export
class_with parent hash = record { index = 2; number = 0; outer = null_index; class = script_index 0; parent = parent; hash = hash }

abbrev pub derived : ℕ → List Export
derived zero = []
derived (suc n) = derived n ++ class_with (last_of n) (n + 1) ∷ []

-- a text n times
abbrev pub times : ℕ → String → String
times zero s = ""
times (suc n) s = s then times n s

-- four script objects, the outer of each being the one before it, and one whose path is `?`
abbrev pub four_objects : List ℕ
four_objects =
    script_bytes ("a" ∷ "b" ∷ "c" ∷ "d" ∷ [])
    (object 0 (script_index 0) null_index ∷ object 1 (script_index 1) (script_index 0)
    ∷ object 2 (script_index 2) (script_index 1) ∷ object 3 (script_index 3) (script_index 2) ∷ [])

abbrev pub question_mark : List ℕ
question_mark = script_bytes ("?" ∷ []) (object 0 (script_index 0) null_index ∷ [])

-- an export `Booth_C`, and in it `Tone`, of no class
abbrev pub booth : List ℕ
booth =
    package_bytes
    (record {
      names = "P" ∷ "Tone_GEN_VARIABLE" ∷ "Booth_C" ∷ [];
      hashes = [];
      exports = plain 2 null_index null_index ∷ plain 1 0 null_index ∷ [];
      imported = [];
    })

-- two exports that are rendered alike, by their base and by their number
abbrev pub rendered-alike : List ℕ
rendered-alike =
    package_bytes
    (record {
      names = "P" ∷ "Tone_GEN_VARIABLE" ∷ "Tone_GEN_VARIABLE_0" ∷ [];
      hashes = [];
      exports = plain 2 null_index null_index ∷ record { index = 1; number = 1; outer = null_index; class = null_index; parent = null_index; hash = 0 } ∷ [];
      imported = [];
    })

pub record Examples : Type 0 where
  -- "report `00 00 00 05 01 00 00 00 00`. Version 2 there: 2"
  pub least_report_lem : answer_within limits (least 1) 0 9 ≡ accepted (0 ∷ 0 ∷ 0 ∷ 5 ∷ 1 ∷ 0 ∷ 0 ∷ 0 ∷ 0 ∷ [])
  pub least-number : number_of (answer_within limits (least 1) 0 9) ≡ 9
  pub version_2 : answer_within limits (least 2) 0 9 ≡ refused_in 2 0
  pub version_2_number : number_of (answer_within limits (least 2) 0 9) ≡ 0x8000_0002_0000_0000
  -- "Package named `A`, all offsets 87, header 91: section of 21 bytes; header 92 in 91 bytes: 15"
  pub header_91 : asked (corpus_of no_objects (named_a 91)) ≡ accepted ((0 ∷ 0 ∷ 0 ∷ 26 ∷ 1 ∷ 0 ∷ 0 ∷ 0 ∷ 1 ∷ []) ++ section_a)
  pub section-length : length section_a ≡ 21
  pub header_92 : asked (corpus_of no_objects (named_a 92)) ≡ refused_in 15 2
  pub header-length : length (named_a 92) ≡ 91
  -- "Path of a, b, c, d: `a.b:c.d`"
  pub path : asked (corpus_of four_objects (with_tone [] (script_index 3))) ≡ accepted (tone_report 1 0 1 1 "a.b:c.d" "a.b:c.d" "script:0x4000000000000003")
  -- "65 objects: known; 66: not"
  pub objects-65 :
      asked (corpus_of (script_bytes ("a" ∷ []) (nested 65)) (with_tone [] (innermost 65)))
      ≡ accepted (tone_report 1 0 1 1 ("a.a:a" then times 62 ".a") ("a.a:a" then times 62 ".a") "script:0x4000000000000040")
  pub objects_66 :
      asked (corpus_of (script_bytes ("a" ∷ []) (nested 66)) (with_tone [] (innermost 66))) ≡ accepted (tone_report 1 1 0 0 "?" "?" "script:0x4000000000000041")
  -- "64 lookups: known; 65: not"
  pub lookups_64 : asked (corpus_of two_objects (with_tone (derived 64) (last_of 64))) ≡ accepted (tone_report 65 4 1 1 "P.C" "Speaker" "export:C")
  pub lookups_65 : asked (corpus_of two_objects (with_tone (derived 65) (last_of 65))) ≡ accepted (tone_report 66 4 1 0 "P.C" "?" "export:C")
  -- "Number 1: `_0`. Id of the empty name: k2"
  pub number_1 : suffix 1 ≡ text "_0"
  pub empty_name : id_of [] ≡ k2
  -- "Row with instance Tone, its export that name and the suffix, outer Booth_C, class null: starts `00 00 00 40 01 01 00 06 00 00`"
  pub row-tone :
      asked (corpus_of no_objects booth)
      ≡ accepted
      (reported "P" 2
      ((0 ∷ 0 ∷ 0 ∷ 64 ∷ 1 ∷ 1 ∷ 0 ∷ 6 ∷ 0 ∷ 0 ∷ texts ("Tone" ∷ "Tone_GEN_VARIABLE" ∷ "Booth_C" ∷ "?" ∷ "?" ∷ "null" ∷ [])) ∷ []))
  -- "A batch of 0 that still reads a version": it reads none, so that one is left over where it has one
  pub batch_of_0 : asked (corpus_from (le4 0 ++ le4 0) []) ≡ accepted (0 ∷ 0 ∷ 0 ∷ 5 ∷ 1 ∷ 0 ∷ 0 ∷ 0 ∷ 0 ∷ [])
  pub batch_of_0_with_version : asked (corpus_from (le4 0 ++ le4 0 ++ le8 0xC1640000 ++ le4 0) []) ≡ refused_in 13 1
  -- "A path of `?` taken for unknown (flags differ)": known where an object has it, and not where the index is missing
  pub path-question-mark :
      asked (corpus_of question_mark (with_tone [] (script_index 0))) ≡ accepted (tone_report 1 0 1 1 "?" "?" "script:0x4000000000000000")
  pub path-unknown :
      asked (corpus_of question_mark (with_tone [] (script_index 1))) ≡ accepted (tone_report 1 1 0 0 "?" "?" "script:0x4000000000000001")
  -- "A reference of hash 0 matched": it finds nothing, though one of hash 1 finds the same export
  pub hash_0 : asked (corpus_of two_objects (with_tone (class_with (script_index 1) 0 ∷ []) 0)) ≡ accepted (tone_report 2 5 0 0 "?" "?" "export:C")
  pub hash_1 : asked (corpus_of two_objects (with_tone (class_with (script_index 1) 1 ∷ []) 0)) ≡ accepted (tone_report 2 4 1 1 "P.C" "Speaker" "export:C")
  -- "The suffix tested on the rendered name": of two exports rendered `Tone_GEN_VARIABLE_0`, that whose base ends in the suffix has a row
  pub suffix-on-base :
      asked (corpus_of no_objects rendered-alike)
      ≡ accepted (reported "P" 2 (length_first (1 ∷ 1 ∷ 1 ∷ 6 ∷ 0 ∷ 0 ∷ texts ("Tone_0" ∷ "Tone_GEN_VARIABLE_0" ∷ "" ∷ "?" ∷ "?" ∷ "null" ∷ [])) ∷ []))
