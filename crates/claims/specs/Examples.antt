-- CLAUSE D: "The examples above form one theorem about the definitions". Document 01's "Table of proved examples" and its "Mistaken readings", in
-- their order; `answer_within limits corpus work room` is the definition with document 01's limits, 64 and 65, `asked corpus`
-- the same with buffers that are long enough.
use Rattle.std.specs.Prelude.{◌≡◌, List, [], ◌∷◌, ◌++◌, ℕ, zero, suc, ◌+◌, length, replicate}
use Prim.Native.String.{String, ◌++◌ as ◌then◌}
use Rattle.city.specs.City.{k2}
use Rattle.base.specs.House.{length_first}
use Rattle.ids.specs.Id.{id_of}
use Rattle.base.specs.Literal.{quoted}
use Rattle.text.specs.Name.{suffix}
use Rattle.written.specs.BatchBytes.{le4, le8}
use Rattle.written.specs.Written.{script_index, null_index, object, script_bytes, package_with, package_bytes}
use Rattle.zen.specs.declared.tables.Export.{Export}
use Rattle.meaning.specs.Call.{refused_in, accepted, number_of, limits}
use Rattle.meaning.specs.Limited.{answer_within}
use Rattle.meaning.specs.Computed.{asked}
use Rattle.meaning.specs.Written.{corpus_from, corpus_of, reported, texts}
use Rattle.meaning.specs.Examples.{Examples, no_objects, two_objects, plain, with_tone, tone_row, class_with}
use Rattle.meaning.proofs.Examples.{examples}

-- THE THEOREM; below, example by example
pub clause_d : Examples
clause_d = examples

-- "Corpus `00 00 00 11 01 00 00 00 08` + 12 zero bytes: report `00 00 00 05 01 00 00 00 00`."
pub example_least : answer_within limits (0 ∷ 0 ∷ 0 ∷ 0x11 ∷ 1 ∷ 0 ∷ 0 ∷ 0 ∷ 8 ∷ replicate 12 0) 0 9 ≡ accepted (0 ∷ 0 ∷ 0 ∷ 5 ∷ 1 ∷ 0 ∷ 0 ∷ 0 ∷ 0 ∷ [])
example_least = examples.least_report_lem

-- "Version 2 there: 2."
pub example_version : number_of (answer_within limits (0 ∷ 0 ∷ 0 ∷ 0x11 ∷ 2 ∷ 0 ∷ 0 ∷ 0 ∷ 8 ∷ replicate 12 0) 0 9) ≡ 0x8000_0002_0000_0000
example_version = examples.version_2_number

-- "Package named `A`, all offsets 87, header 91: section of 21 bytes; header 92 in 91 bytes: 15."
abbrev pub named_a : ℕ → List ℕ
named_a header = package_with header (replicate 7 87) (record { names = "A" ∷ []; hashes = []; exports = []; imported = [] })

-- its section, with the id 9
abbrev pub section_a : List ℕ
section_a = (0 ∷ 0 ∷ 0 ∷ 0 ∷ 0 ∷ 0 ∷ 0 ∷ 9 ∷ []) ++ (0 ∷ 0 ∷ 0 ∷ 1 ∷ 65 ∷ []) ++ (0 ∷ 0 ∷ 0 ∷ 0 ∷ []) ++ (0 ∷ 0 ∷ 0 ∷ 0 ∷ [])

pub example_header_91 : asked (corpus_of no_objects (named_a 91)) ≡ accepted ((0 ∷ 0 ∷ 0 ∷ 26 ∷ 1 ∷ 0 ∷ 0 ∷ 0 ∷ 1 ∷ []) ++ section_a)
example_header_91 = examples.header_91

pub example_section : length section_a ≡ 21
example_section = examples.section-length

pub example_header_92 : asked (corpus_of no_objects (named_a 92)) ≡ refused_in 15 2
example_header_92 = examples.header_92

pub example_block : length (named_a 92) ≡ 91
example_block = examples.header-length

-- for the next ones: a package `P` with some exports and then a candidate named `Tone` that has this class, `with_tone`, and the report on it: export
-- count, class kind, known flags, and the texts of class, native class and reference
abbrev pub tone : ℕ → ℕ → ℕ → ℕ → String → String → String → List ℕ
tone exports kind class native class_text native_text reference = reported "P" exports (tone_row kind class native class_text native_text reference ∷ [])

-- "Path of a, b, c, d: `a.b:c.d`."
pub example-path :
    asked (corpus_of
    (script_bytes ("a" ∷ "b" ∷ "c" ∷ "d" ∷ [])
    (object 0 (script_index 0) null_index ∷ object 1 (script_index 1) (script_index 0)
    ∷ object 2 (script_index 2) (script_index 1) ∷ object 3 (script_index 3) (script_index 2) ∷ []))
    (with_tone [] (script_index 3)))
    ≡ accepted (tone 1 0 1 1 "a.b:c.d" "a.b:c.d" "script:0x4000000000000003")
example-path = examples.path

-- "65 objects: known; 66: not."
-- n script objects named `a`, each in the next; the innermost is the first
abbrev pub outer_of : ℕ → ℕ
outer_of zero = null_index
outer_of (suc n) = script_index n

abbrev pub nested : ℕ → List (List ℕ)
nested zero = []
nested (suc n) = object 0 (script_index n) (outer_of n) ∷ nested n

abbrev pub times : ℕ → String → String
times zero s = ""
times (suc n) s = s then times n s

pub example-objects-65 :
    asked (corpus_of (script_bytes ("a" ∷ []) (nested 65)) (with_tone [] (script_index 64)))
    ≡ accepted (tone 1 0 1 1 ("a.a:a" then times 62 ".a") ("a.a:a" then times 62 ".a") "script:0x4000000000000040")
example-objects-65 = examples.objects-65

pub example-objects-66 :
    asked (corpus_of (script_bytes ("a" ∷ []) (nested 66)) (with_tone [] (script_index 65))) ≡ accepted (tone 1 1 0 0 "?" "?" "script:0x4000000000000041")
example-objects-66 = examples.objects_66

-- "64 lookups: known; 65: not."
-- n classes: the super of the first is the native class `Speaker`, that of each other the one before it
abbrev pub super_of : ℕ → ℕ
super_of zero = script_index 1
super_of (suc n) = n

abbrev pub derived : ℕ → List Export
derived zero = []
derived (suc n) = derived n ++ class_with (super_of n) (n + 1) ∷ []

pub example_lookups_64 : asked (corpus_of two_objects (with_tone (derived 64) 63)) ≡ accepted (tone 65 4 1 1 "P.C" "Speaker" "export:C")
example_lookups_64 = examples.lookups_64

pub example_lookups_65 : asked (corpus_of two_objects (with_tone (derived 65) 64)) ≡ accepted (tone 66 4 1 0 "P.C" "?" "export:C")
example_lookups_65 = examples.lookups_65

-- "Number 1: `_0`."
pub example_number : suffix 1 ≡ quoted "_0"
example_number = examples.number_1

-- "Id of the empty name: k2."
pub example_id : id_of [] ≡ k2
example_id = examples.empty_name

-- "Row with instance Tone, its export that name and the suffix, outer Booth_C, class null: starts `00 00 00 40 01 01 00 06 00 00`."
pub example-row :
    asked (corpus_of no_objects (package_bytes (record {
      names = "P" ∷ "Tone_GEN_VARIABLE" ∷ "Booth_C" ∷ [];
      hashes = [];
      exports = plain 2 null_index null_index ∷ plain 1 0 null_index ∷ [];
      imported = [];
    })))
    ≡ accepted (reported "P" 2
    ((0 ∷ 0 ∷ 0 ∷ 0x40 ∷ 1 ∷ 1 ∷ 0 ∷ 6 ∷ 0 ∷ 0 ∷ texts ("Tone" ∷ "Tone_GEN_VARIABLE" ∷ "Booth_C" ∷ "?" ∷ "?" ∷ "null" ∷ [])) ∷ []))
example-row = examples.row-tone

-- ---- "Mistaken readings"

-- "A batch of 0 that still reads a version": it reads none, and one that stands there is left over
pub mistaken_batch : asked (corpus_from (le4 0 ++ le4 0 ++ le8 0xC1640000 ++ le4 0) []) ≡ refused_in 13 1
mistaken_batch = examples.batch_of_0_with_version

-- "A path of `?` taken for unknown (flags differ)": the object named `?`, and an index that no object has
pub mistaken-question-mark :
    asked (corpus_of (script_bytes ("?" ∷ []) (object 0 (script_index 0) null_index ∷ [])) (with_tone [] (script_index 0)))
    ≡ accepted (tone 1 0 1 1 "?" "?" "script:0x4000000000000000")
mistaken-question-mark = examples.path-question-mark

pub mistaken-unknown :
    asked (corpus_of (script_bytes ("?" ∷ []) (object 0 (script_index 0) null_index ∷ [])) (with_tone [] (script_index 1)))
    ≡ accepted (tone 1 1 0 0 "?" "?" "script:0x4000000000000001")
mistaken-unknown = examples.path-unknown

-- "A reference of hash 0 matched": the export of hash 0 is no class, that of hash 1 is
pub mistaken_hash_0 : asked (corpus_of two_objects (with_tone (class_with (script_index 1) 0 ∷ []) 0)) ≡ accepted (tone 2 5 0 0 "?" "?" "export:C")
mistaken_hash_0 = examples.hash_0

pub mistaken_hash_1 : asked (corpus_of two_objects (with_tone (class_with (script_index 1) 1 ∷ []) 0)) ≡ accepted (tone 2 4 1 1 "P.C" "Speaker" "export:C")
mistaken_hash_1 = examples.hash_1

-- "The suffix tested on the rendered name": of two exports rendered `Tone_GEN_VARIABLE_0`, that whose base ends in the suffix has a row
pub mistaken-suffix :
    asked (corpus_of no_objects (package_bytes (record {
      names = "P" ∷ "Tone_GEN_VARIABLE" ∷ "Tone_GEN_VARIABLE_0" ∷ [];
      hashes = [];
      exports = plain 2 null_index null_index ∷ record { index = 1; number = 1; outer = null_index; class = null_index; parent = null_index; hash = 0 } ∷ [];
      imported = [];
    })))
    ≡ accepted (reported "P" 2 (length_first (1 ∷ 1 ∷ 1 ∷ 6 ∷ 0 ∷ 0 ∷ texts ("Tone_0" ∷ "Tone_GEN_VARIABLE_0" ∷ "" ∷ "?" ∷ "?" ∷ "null" ∷ [])) ∷ []))
mistaken-suffix = examples.suffix-on-base
