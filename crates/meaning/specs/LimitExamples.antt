-- The two limits computed where they are small and differ: 1 lookup and 2 objects. Each field quotes the sentence of document 01 that it
-- shows. Assumes nothing.
use Rattle.std.specs.Prelude.{◌≡◌, List, [], ◌∷◌, ℕ}
use Rattle.written.specs.Written.{script_index, package_bytes}
use Rattle.zen.specs.declared.tables.Export.{Export}
use Rattle.meaning.specs.Resolve.{Limits, limits_of}
use Rattle.meaning.specs.Call.{refused_in, accepted}
use Rattle.meaning.specs.Limited.{answer_within}
use Rattle.meaning.specs.Written.{corpus_of, reported}
use Rattle.meaning.specs.Examples.{tone_row}
use Rattle.meaning.specs.RowExamples.{engine, class, tone}

abbrev pub small : Limits
small = limits_of 1 2

-- a package with these exports
abbrev pub holding : List Export → List ℕ
holding exports = package_bytes (record { names = "P" ∷ "Tone_GEN_VARIABLE" ∷ "C" ∷ "D" ∷ []; hashes = []; exports = exports; imported = [] })

-- a class `C` of `Speaker`, a class `D` of `C`, and what has each of them, `Speaker` and its `Part` for its class
abbrev pub derived : List ℕ
derived = corpus_of engine (holding (class 2 (script_index 2) 1 ∷ class 3 0 2 ∷ tone 0 ∷ tone 1 ∷ tone (script_index 2) ∷ tone (script_index 3) ∷ []))

pub record LimitExamples : Type 0 where
  -- "a lookup is one step from a key to its class's super, the class itself being the first. 64 lookups at most", "at most 65 objects, all
  -- known; a 66th is unknown": the path of `D`'s native class is known with 2 lookups, that of `Part` with 3 objects
  pub lookups-and-objects :
      answer_within small derived 640 500
      ≡ accepted
      (reported "P" 6
      (tone_row 4 1 1 "P.C" "/Engine.Speaker" "export:C" ∷ tone_row 4 1 0 "P.D" "?" "export:D"
      ∷ tone_row 0 1 1 "/Engine.Speaker" "/Engine.Speaker" "script:0x4000000000000002" ∷ tone_row 1 0 0 "?" "?" "script:0x4000000000000003" ∷ []))
  -- "Class: [..] a class path whose part ..": it has 2 objects, so that 24 and the sum of 25 count these classes
  pub key_twice : answer_within small (corpus_of engine (holding (class 2 (script_index 2) 1 ∷ class 3 0 1 ∷ []))) 0 0 ≡ refused_in 24 2
  pub work-short : answer_within small derived 639 500 ≡ refused_in 25 0
  -- with 1 object it is unknown, and there is no class
  pub no_class_lem : answer_within (limits_of 2 1) derived 512 0 ≡ refused_in 26 0
  pub no_class-short : answer_within (limits_of 2 1) derived 511 0 ≡ refused_in 25 0
