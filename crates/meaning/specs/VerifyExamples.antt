-- `verify` computed (document 02, Q-2): paths whose hash is their object's index, one whose isn't, and one that is unknown; packages whose id is
-- that of their name, and others. The hashes were computed by a program apart from these definitions. Assumes nothing.
use Rattle.std.specs.Prelude.{◌≡◌, List, [], ◌∷◌, ◌++◌, ℕ, replicate}
use Rattle.ids.specs.Id.{id_of}
use Rattle.base.specs.Literal.{quoted as text}
use Rattle.written.specs.Written.{script_index, null_index, object, script_bytes, package_bytes}
use Rattle.meaning.specs.Frame.{Part}
use Rattle.meaning.specs.Call.{refused_in, accepted}
use Rattle.meaning.specs.Written.{corpus_from, name_numbered}
use Rattle.meaning.specs.Examples.{least, no_objects, two_objects, class_with}
use Rattle.meaning.specs.Verify.{path_hash, verify_answer, verified}

-- global indices: 2 ^ 62 and the low 62 bits of the hashes of `/Script/Engine`, `/Script/Engine.Actor`, `/Script/Engine.Actor:a.b:c`, `É` and
-- the empty path
abbrev pub engine_index : ℕ
engine_index = 0x51ac_ced3_dc7c_0922

abbrev pub actor_index : ℕ
actor_index = 0x6459_26f2_83dc_695c

abbrev pub part_index : ℕ
part_index = 0x7afc_00e3_f889_644a

abbrev pub accent_index : ℕ
accent_index = 0x4ec9_7d40_8090_eca3

abbrev pub empty_index : ℕ
empty_index = 0x5ae1_6a3b_2f90_404f

-- of `Gone`, in an outer that no object is
abbrev pub gone_index : ℕ
gone_index = 0x4eb4_5cbf_361a_c209

-- eight objects: five paths match, one doesn't, and two are unknown, the last because its outer is itself
abbrev pub engine : List ℕ
engine =
    script_bytes ("/Script/Engine" ∷ "Actor" ∷ "a.b:c" ∷ "É" ∷ "" ∷ "Wrong" ∷ "Gone" ∷ "Ring" ∷ [])
    (object 2 part_index actor_index ∷ object 0 engine_index null_index ∷ object 1 actor_index engine_index ∷ object 3 accent_index null_index
    ∷ object 4 empty_index null_index ∷ object 5 (script_index 5) null_index ∷ object 6 gone_index (script_index 6)
    ∷ object 7 (script_index 7) (script_index 7) ∷ [])

-- a package block named `P`
abbrev pub named : List ℕ
named = package_bytes (record { names = "P" ∷ []; hashes = []; exports = []; imported = [] })

abbrev pub packed : ℕ → List ℕ → Part
packed id block = record { id = id; block = block }

-- under the id of `P`, under that without its top two bits, under that of `P_1`; and `P_1` under each
abbrev pub six : List Part
six =
    packed 0xf472_9b7e_ea82_091b named ∷ packed 0x3472_9b7e_ea82_091b named ∷ packed 0x3f17_5dcc_68e6_41e6 named
    ∷ packed 0xf472_9b7e_ea82_091b (name_numbered 2 named) ∷ packed 0x3472_9b7e_ea82_091b (name_numbered 2 named)
    ∷ packed 0x3f17_5dcc_68e6_41e6 (name_numbered 2 named) ∷ []

-- two classes with one key
abbrev pub twice : List ℕ
twice =
    package_bytes
    (record { names = "P" ∷ "" ∷ "C" ∷ []; hashes = []; exports = class_with (script_index 1) 1 ∷ class_with (script_index 1) 1 ∷ []; imported = [] })

pub record VerifyExamples : Type 0 where
  -- "The path has `.` and `:` turned to `/`, is lowered and hashed"
  pub separators : path_hash (text "A.b:c.d") ≡ 0x0b6d_5b14_dbf8_342d
  pub as_slashes : id_of (text "a/b/c/d") ≡ 0x0b6d_5b14_dbf8_342d
  -- "objects, paths resolved, hash matches, mismatches", "the package count, the flags"
  pub counts-and-flags :
      verify_answer (corpus_from engine six) 31
      ≡ accepted
      ((0 ∷ 0 ∷ 0 ∷ 27 ∷ 1 ∷ 0 ∷ 0 ∷ 0 ∷ 8 ∷ 0 ∷ 0 ∷ 0 ∷ 6 ∷ 0 ∷ 0 ∷ 0 ∷ 5 ∷ 0 ∷ 0 ∷ 0 ∷ 1 ∷ 0 ∷ 0 ∷ 0 ∷ 6 ∷ []) ++ 1 ∷ 0 ∷ 0 ∷ 0 ∷ 0 ∷ 1 ∷ [])
  -- 26, asked last, of the buffer's length
  pub buffer-short : verify_answer (corpus_from engine six) 30 ≡ refused_in 26 0
  -- the least corpus; "bytes past the output stay as they were"; "refused, its output buffer is unchanged"
  pub least-output : verified (least 1) (replicate 27 7) ≡ record { number = 25; output = 0 ∷ 0 ∷ 0 ∷ 21 ∷ 1 ∷ replicate 20 0 ++ 7 ∷ 7 ∷ [] }
  pub least-refused : verified (least 1) (replicate 24 7) ≡ record { number = 0x8000_001A_0000_0000; output = replicate 24 7 }
  -- "it asks the report's questions": the version, a block, 24, whatever the buffer
  pub version_2 : verify_answer (least 2) 0 ≡ refused_in 2 0
  pub no_block : verify_answer (corpus_from no_objects (packed 9 [] ∷ [])) 0 ≡ refused_in 3 2
  pub key_twice : verify_answer (corpus_from two_objects (packed 9 twice ∷ [])) 0 ≡ refused_in 24 2
