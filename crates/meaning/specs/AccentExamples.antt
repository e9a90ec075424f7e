-- Package names beyond ASCII, computed (document 02, Q-1: "A reordered corpus with such names must keep its sections too"): an import of `/É` finds
-- the package `/é`, and one of `/Ÿ`, which is wide text, the package `/ÿ`, which is Latin-1, whichever of the two comes first. Assumes nothing.
use Rattle.std.specs.Prelude.{◌≡◌, List, [], ◌∷◌, ℕ}
use Prim.Native.String.{String, ◌++◌ as ◌then◌}
use Rattle.base.specs.House.{length_first}
use Rattle.ids.specs.Id.{id_of}
use Rattle.base.specs.Literal.{quoted as text}
use Rattle.written.specs.Written.{script_index, import_index, null_index, package_bytes}
use Rattle.meaning.specs.Frame.{Part}
use Rattle.meaning.specs.Call.{accepted}
use Rattle.meaning.specs.Computed.{asked}
use Rattle.meaning.specs.Written.{corpus_from, section_bytes, report_bytes, texts}
use Rattle.meaning.specs.Examples.{two_objects, plain, class_with}

-- a package of this name with a class `C` of hash 7
abbrev pub home : String → Part
home name = record {
  id = id_of (text name);
  block = package_bytes (record { names = name ∷ "" ∷ "C" ∷ []; hashes = []; exports = class_with (script_index 1) 7 ∷ []; imported = [] });
}

-- one that imports it, spelt so
abbrev pub importer : String → Part
importer spelt = record {
  id = 9;
  block =
      package_bytes
      (record {
        names = "P" ∷ "Tone_GEN_VARIABLE" ∷ [];
        hashes = 7 ∷ [];
        exports = plain 1 null_index (import_index 0 0) ∷ [];
        imported = spelt ∷ [];
      });
}

abbrev pub home-section : String → List ℕ
home-section name = section_bytes (id_of (text name)) name 1 []

-- texts stand as they are spelt
abbrev pub importer-section : String → String → List ℕ
importer-section name spelt =
    section_bytes 9 "P" 1
    (length_first
    (1 ∷ 1 ∷ 0 ∷ 2 ∷ 1 ∷ 1
    ∷ texts ("Tone" ∷ "Tone_GEN_VARIABLE" ∷ "" ∷ (name then ".C") ∷ "Speaker" ∷ ("package:" then spelt then "#0x0000000000000007") ∷ [])) ∷ [])

pub record Found (name spelt : String) : Type 0 where
  pub one-id : id_of (text spelt) ≡ id_of (text name)
  pub found :
      asked (corpus_from two_objects (home name ∷ importer spelt ∷ [])) ≡ accepted (report_bytes (home-section name ∷ importer-section name spelt ∷ []))
  pub backwards :
      asked (corpus_from two_objects (importer spelt ∷ home name ∷ [])) ≡ accepted (report_bytes (importer-section name spelt ∷ home-section name ∷ []))
