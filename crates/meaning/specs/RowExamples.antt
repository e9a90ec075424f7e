-- Rows computed: which exports are candidates and classes, what each kind of reference means, what a chain leads to. Each field quotes
-- the sentence of document 01 that it shows. Assumes nothing.
use Rattle.std.specs.Prelude.{◌≡◌, List, [], ◌∷◌, ℕ}
use Prim.Native.String.{String}
use Rattle.base.specs.House.{length_first}
use Rattle.ids.specs.Id.{id_of}
use Rattle.base.specs.Literal.{quoted as text}
use Rattle.written.specs.Written.{script_index, import_index, null_index, object, script_bytes, package_bytes}
use Rattle.zen.specs.declared.tables.Export.{Export}
use Rattle.meaning.specs.Frame.{Part}
use Rattle.meaning.specs.Scan.{last_part}
use Rattle.meaning.specs.Call.{accepted}
use Rattle.meaning.specs.Computed.{asked}
use Rattle.meaning.specs.Written.{corpus_from, corpus_of, name_numbered, imports_numbered, section_bytes, report_bytes, reported, texts}
use Rattle.meaning.specs.Examples.{no_objects, plain, tone_row}

-- `/Engine`, and in it the class of classes, a native class `Speaker`, and `Speaker`'s `Part`
abbrev pub engine : List ℕ
engine =
    script_bytes ("/Engine" ∷ "BlueprintClass" ∷ "Speaker" ∷ "Part" ∷ [])
    (object 0 (script_index 0) null_index ∷ object 1 (script_index 1) (script_index 0)
    ∷ object 2 (script_index 2) (script_index 0) ∷ object 3 (script_index 3) (script_index 2) ∷ [])

-- an export with this name and instance number, outer and class, and no more
abbrev pub numbered : ℕ → ℕ → ℕ → ℕ → Export
numbered name number outer class = record { index = name; number = number; outer = outer; class = class; parent = null_index; hash = 0 }

-- an export whose class is the class of classes, with this name, super and hash
abbrev pub class : ℕ → ℕ → ℕ → Export
class name parent hash = record { index = name; number = 0; outer = null_index; class = script_index 1; parent = parent; hash = hash }

-- `Tone`, with this class index
abbrev pub tone : ℕ → Export
tone class = plain 1 null_index class

-- ---- candidates

abbrev pub candidates : List ℕ
candidates =
    package_bytes
    (record {
      names = "P" ∷ "Tone_GEN_VARIABLE" ∷ "Default__Booth_C" ∷ "Speaker" ∷ "Default_" ∷ "_GEN_VARIABLE" ∷ [];
      hashes = [];
      exports =
          numbered 2 3 null_index null_index ∷ numbered 3 2 0 null_index ∷ numbered 1 4 0 null_index ∷ numbered 4 1 null_index null_index
          ∷ numbered 3 0 3 null_index ∷ numbered 3 0 1 null_index ∷ numbered 5 0 99 null_index ∷ [];
      imported = [];
    })

-- a row whose class is null: kind, numbered, and the texts of instance, export and outer
abbrev pub null_row : ℕ → ℕ → String → String → String → List ℕ
null_row kind number instance export outer =
    length_first (1 ∷ kind ∷ number ∷ 6 ∷ 0 ∷ 0 ∷ texts (instance ∷ export ∷ outer ∷ "?" ∷ "?" ∷ "null" ∷ []))

-- ---- references

-- the package `/Q` number 5, and in it, in `Booth` number 2, the class `C` number 1, whose super is export 2, the class `Base`; `Booth` has
-- an outer of its own
abbrev pub home : Part
home = record {
  id = id_of (text "/Q_4");
  block =
      name_numbered 5
      (package_bytes
      (record {
        names = "/Q" ∷ "Booth" ∷ "C" ∷ "Base" ∷ [];
        hashes = [];
        exports =
            numbered 1 2 2 null_index ∷ record { index = 2; number = 1; outer = 0; class = script_index 1; parent = 2; hash = 0xAB }
            ∷ class 3 (script_index 2) 0xAC ∷ [];
        imported = [];
      }));
}

abbrev pub home-section : List ℕ
home-section = section_bytes (id_of (text "/Q_4")) "/Q_4" 3 []

-- a package `P` that imports `/Q` number 5, `/Q` and `/R`, with these exports
abbrev pub importing : List String → List Export → Part
importing names exports = record {
  id = 9;
  block =
      imports_numbered (5 ∷ 0 ∷ 0 ∷ [])
      (package_bytes (record { names = names; hashes = 0xAB ∷ 0xCD ∷ []; exports = exports; imported = "/Q" ∷ "/Q" ∷ "/R" ∷ [] }));
}

abbrev pub references : Part
references =
    importing ("P" ∷ "Tone_GEN_VARIABLE" ∷ "C" ∷ "Booth" ∷ [])
    (class 2 (script_index 2) 1 ∷ plain 3 null_index null_index ∷ tone (script_index 2) ∷ tone (script_index 9) ∷ tone (import_index 0 0)
    ∷ tone (import_index 1 0) ∷ tone 0 ∷ tone 1 ∷ tone null_index ∷ tone (import_index 3 1) ∷ tone (import_index 1 2) ∷ tone 20 ∷ [])

-- ---- classes and chains

abbrev pub supers : Part
supers =
    importing ("P" ∷ "Tone_GEN_VARIABLE" ∷ "Imports" ∷ "Lost" ∷ "Ring" ∷ "Bad" ∷ "Root" ∷ "Other" ∷ [])
    (class 2 (import_index 0 0) 1 ∷ class 3 (import_index 1 0) 2 ∷ class 4 2 3 ∷ class 5 20 4 ∷ class 6 null_index 5
    ∷ record { index = 7; number = 0; outer = null_index; class = script_index 3; parent = script_index 2; hash = 6 }
    ∷ tone 0 ∷ tone 1 ∷ tone 2 ∷ tone 3 ∷ tone 4 ∷ tone 5 ∷ [])

-- two packages of one id: a row whose class is an export of hash 7 that is no class, and a class of hash 7
abbrev pub asks : Part
asks = record {
  id = 9;
  block =
      package_bytes
      (record {
        names = "P" ∷ "Tone_GEN_VARIABLE" ∷ "Booth" ∷ [];
        hashes = [];
        exports = record { index = 2; number = 0; outer = null_index; class = null_index; parent = null_index; hash = 7 } ∷ tone 0 ∷ [];
        imported = [];
      });
}

abbrev pub has : Part
has = record { id = 9; block = package_bytes (record { names = "Q" ∷ "" ∷ "C" ∷ []; hashes = []; exports = class 2 (script_index 2) 7 ∷ []; imported = [] }) }

-- ---- text

-- a package, a script object, an export, a class and a candidate in it, each named with an `é`, which is one byte there
abbrev pub accented : List ℕ
accented =
    package_bytes
    (record {
      names = "é" ∷ "é_GEN_VARIABLE" ∷ [];
      hashes = [];
      exports = class 0 (script_index 0) 1 ∷ plain 1 0 0 ∷ [];
      imported = [];
    })

abbrev pub accented_objects : List ℕ
accented_objects = script_bytes ("é" ∷ "Class" ∷ []) (object 0 (script_index 0) null_index ∷ object 1 (script_index 1) null_index ∷ [])

pub record RowExamples : Type 0 where
  -- "Candidate kind 1: base ends in `_GEN_VARIABLE`; instance is the rest, with the number's suffix if the number isn't 0 ("numbered").
  -- Otherwise kind 2: the outer's base starts with `Default__`; instance is rendered, numbered is 0": exports 1, 2 and 6. Export 0 has no
  -- outer, that of export 4 is rendered `Default__0` and its base is `Default_`, that of export 5 is export 1, that of export 6 is missing
  pub kinds :
      asked (corpus_of no_objects candidates)
      ≡ accepted
      (reported "P" 7
      (null_row 2 0 "Speaker_1" "Speaker_1" "Default__Booth_C_2" ∷ null_row 1 1 "Tone_3" "Tone_GEN_VARIABLE_3" "Default__Booth_C_2"
      ∷ null_row 1 0 "" "_GEN_VARIABLE" "" ∷ []))
  -- "class kinds 0 to 7: script found, script unresolved, import found, import unresolved, export found, export unresolved, null, bad"; "its
  -- path is package name, `.`, [outer rendered, `:`,] rendered"; "It means key (id of imported name p, hash h)", and "Imported names: a
  -- batch, then a u32 number per name, rendered"; and the reference texts
  pub class-kinds :
      asked (corpus_from engine (home ∷ references ∷ []))
      ≡ accepted
      (report_bytes
      (home-section
      ∷ section_bytes 9 "P" 12
      (tone_row 0 1 1 "/Engine.Speaker" "/Engine.Speaker" "script:0x4000000000000002" ∷ tone_row 1 0 0 "?" "?" "script:0x4000000000000009"
      ∷ tone_row 2 1 1 "/Q_4.Booth_1:C_0" "/Engine.Speaker" "package:/Q_4#0x00000000000000ab"
      ∷ tone_row 3 0 0 "?" "?" "package:/Q#0x00000000000000ab" ∷ tone_row 4 1 1 "P.C" "/Engine.Speaker" "export:C"
      ∷ tone_row 5 0 0 "?" "?" "export:Booth" ∷ tone_row 6 0 0 "?" "?" "null"
      ∷ tone_row 7 0 0 "?" "?" "package import 3/1 outside 3 packages / 2 hashes"
      ∷ tone_row 7 0 0 "?" "?" "package import 1/2 outside 3 packages / 2 hashes" ∷ tone_row 7 0 0 "?" "?" "local export 20 outside 12 exports"
      ∷ [])
      ∷ []))
  -- "native follows super references; [..] a key that no class has is no lookup and ends the chain unknown": a super that is an import found,
  -- an import unresolved, the class itself, bad. "Class: an export with class of kind 1, super not kind 3, [..] and a class path whose
  -- part after the last `.` or `:` ends in `Class`": `Root` has no super, and the class path of `Other` is `/Engine.Speaker:Part`
  pub chains :
      asked (corpus_from engine (supers ∷ home ∷ []))
      ≡ accepted
      (report_bytes
      (section_bytes 9 "P" 12
      (tone_row 4 1 1 "P.Imports" "/Engine.Speaker" "export:Imports" ∷ tone_row 4 1 0 "P.Lost" "?" "export:Lost"
      ∷ tone_row 4 1 0 "P.Ring" "?" "export:Ring" ∷ tone_row 4 1 0 "P.Bad" "?" "export:Bad" ∷ tone_row 5 0 0 "?" "?" "export:Root"
      ∷ tone_row 5 0 0 "?" "?" "export:Other" ∷ [])
      ∷ home-section ∷ []))
  -- "Kind 0 means the same package's export, numbered from 0: key (own id, its hash)": a class of another package may have that key
  pub key-not-export :
      asked (corpus_from engine (asks ∷ has ∷ []))
      ≡ accepted
      (report_bytes (section_bytes 9 "P" 2 (tone_row 4 1 1 "Q.C" "/Engine.Speaker" "export:Booth" ∷ []) ∷ section_bytes 9 "Q" 1 [] ∷ []))
  -- "Text: 4-byte length, UTF-8": `é` is the two bytes C3 A9
  pub two_bytes : texts ("é" ∷ []) ≡ 0 ∷ 0 ∷ 0 ∷ 2 ∷ 0xC3 ∷ 0xA9 ∷ []
  pub utf_8 :
      asked (corpus_of accented_objects accented)
      ≡ accepted
      (reported "é" 2
      (length_first (1 ∷ 1 ∷ 0 ∷ 4 ∷ 1 ∷ 1 ∷ texts ("é" ∷ "é_GEN_VARIABLE" ∷ "é" ∷ "é.é" ∷ "é" ∷ "export:é" ∷ [])) ∷ []))
  -- "part after the last `.` or `:`"
  pub after_colon : last_part (text "a.b:c") ≡ text "c"
  pub after_dot : last_part (text "a:b.") ≡ []
  pub no_separator : last_part (text "ab") ≡ text "ab"
