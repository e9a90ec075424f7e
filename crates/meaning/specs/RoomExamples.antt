-- One corpus within two limits, computed (document 02, Q-5: "The teaching rooms show short chains only and want 8 lookups and 4 outer objects").
-- Assumes nothing.
use Rattle.std.specs.Prelude.{◌≡◌, List, [], ◌∷◌, ◌++◌, ℕ}
use Rattle.written.specs.Written.{script_index, null_index, object, script_bytes, package_bytes}
use Rattle.zen.specs.declared.tables.Export.{Export}
use Rattle.meaning.specs.Resolve.{limits_of}
use Rattle.meaning.specs.Call.{Answer, refused_in, accepted}
use Rattle.meaning.specs.Limited.{answer_within}
use Rattle.meaning.specs.Written.{corpus_of, reported}
use Rattle.meaning.specs.Examples.{two_objects, with_tone, tone_row, last_of, derived}
use Rattle.meaning.specs.RowExamples.{tone}

-- with buffers that are long enough
abbrev pub within : ℕ → ℕ → List ℕ → Answer (List ℕ)
within lookups objects corpus = answer_within (limits_of lookups objects) corpus 65536 65536

-- nine classes, each derived from the one before it, and what has the eighth and the ninth for its class
abbrev pub nine_classes : List ℕ
nine_classes = corpus_of two_objects (with_tone (derived 9 ++ tone (last_of 8) ∷ []) (last_of 9))

-- five script objects, each in the one before it, and what has the fourth and the fifth for its class
abbrev pub five_objects : List ℕ
five_objects =
    corpus_of
    (script_bytes ("a" ∷ "b" ∷ "c" ∷ "d" ∷ "e" ∷ [])
    (object 0 (script_index 0) null_index ∷ object 1 (script_index 1) (script_index 0) ∷ object 2 (script_index 2) (script_index 1)
    ∷ object 3 (script_index 3) (script_index 2) ∷ object 4 (script_index 4) (script_index 3) ∷ []))
    (with_tone (tone (script_index 3) ∷ []) (script_index 4))

-- the script objects `Class`, `a`, `a.a`, `a.a:a`, `a.a:a.a` and, 5 deep, `a.a:a.a.Class`
abbrev pub two_class : List ℕ
two_class =
    script_bytes ("Class" ∷ "a" ∷ [])
    (object 0 (script_index 0) null_index ∷ object 1 (script_index 1) null_index ∷ object 1 (script_index 2) (script_index 1)
    ∷ object 1 (script_index 3) (script_index 2) ∷ object 1 (script_index 4) (script_index 3) ∷ object 0 (script_index 5) (script_index 4) ∷ [])

-- an export of hash 1 with this name, class and super
abbrev pub hash_one : ℕ → ℕ → ℕ → Export
hash_one name class parent = record { index = name; number = 0; outer = null_index; class = class; parent = parent; hash = 1 }

-- these exports, and what has the last of them for its class
abbrev pub holding : List Export → ℕ → List ℕ
holding exports last =
    corpus_of two_class
    (package_bytes (record { names = "P" ∷ "Tone_GEN_VARIABLE" ∷ "C" ∷ "D" ∷ []; hashes = []; exports = exports ++ tone last ∷ []; imported = [] }))

-- `D`, told a class by the `Class` that is 5 deep; and behind it `C`, told one by the `Class` that is 1 deep
abbrev pub deep : List ℕ
deep = holding (hash_one 3 (script_index 5) (script_index 1) ∷ []) 0

abbrev pub two_of_one_hash : List ℕ
two_of_one_hash = holding (hash_one 3 (script_index 5) (script_index 1) ∷ hash_one 2 (script_index 0) (script_index 2) ∷ []) 1

pub record RoomExamples : Type 0 where
  -- 8 lookups: known; a chain of one more: not, and with 9 lookups it is
  pub lookups-8 :
      within 8 4 nine_classes ≡ accepted (reported "P" 11 (tone_row 4 1 1 "P.C" "Speaker" "export:C" ∷ tone_row 4 1 0 "P.C" "?" "export:C" ∷ []))
  pub lookups-9 :
      within 9 4 nine_classes ≡ accepted (reported "P" 11 (tone_row 4 1 1 "P.C" "Speaker" "export:C" ∷ tone_row 4 1 1 "P.C" "Speaker" "export:C" ∷ []))
  -- 4 objects, the index's own counted: known; one deeper: not, and with 5 objects it is
  pub objects-4 :
      within 8 4 five_objects
      ≡ accepted
      (reported "P" 2
      (tone_row 0 1 1 "a.b:c.d" "a.b:c.d" "script:0x4000000000000003" ∷ tone_row 1 0 0 "?" "?" "script:0x4000000000000004" ∷ []))
  pub objects-5 :
      within 8 5 five_objects
      ≡ accepted
      (reported "P" 2
      (tone_row 0 1 1 "a.b:c.d" "a.b:c.d" "script:0x4000000000000003"
      ∷ tone_row 0 1 1 "a.b:c.d.e" "a.b:c.d.e" "script:0x4000000000000004" ∷ []))
  -- "the object limit governs the class test as well": an export that is no class with 4 objects is one with 5
  pub no_class_4 : within 8 4 deep ≡ accepted (reported "P" 2 (tone_row 5 0 0 "?" "?" "export:D" ∷ []))
  pub class_5 : within 8 5 deep ≡ accepted (reported "P" 2 (tone_row 4 1 1 "P.D" "a" "export:D" ∷ []))
  -- "and both accept": with 4 objects `C` alone is a class, with 5 `D` before it has its key
  pub one-class_4 : within 8 4 two_of_one_hash ≡ accepted (reported "P" 3 (tone_row 4 1 1 "P.C" "a.a" "export:C" ∷ []))
  pub key_twice_5 : within 8 5 two_of_one_hash ≡ refused_in 24 2
