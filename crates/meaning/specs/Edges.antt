-- What document 01 says and its table doesn't show, computed: a package import's halves, 24's block, 25 before 26. Assumes nothing.
use Rattle.std.specs.Prelude.{◌≡◌, List, [], ◌∷◌, map, ℕ}
use Rattle.base.specs.House.{length_first}
use Rattle.base.specs.Literal.{quoted as text}
use Rattle.ids.specs.Id.{id_of}
use Rattle.written.specs.Written.{script_index, import_index, null_index, package_bytes}
use Rattle.meaning.specs.Frame.{Part}
use Rattle.meaning.specs.Call.{refused_in, accepted, number_of, limits}
use Rattle.meaning.specs.Limited.{answer_within}
use Rattle.meaning.specs.Computed.{asked}
use Rattle.meaning.specs.Written.{corpus_from, corpus_of, section_bytes, report_bytes, texts}
use Rattle.meaning.specs.Examples.{no_objects, two_objects, plain, class_with, booth}

-- a package `/Q` with a class `C` of hash 7, and one that imports it: imported name 1, hash 0
abbrev pub home : Part
home = record {
  id = id_of (text "/Q");
  block = package_bytes (record { names = "/Q" ∷ "" ∷ "C" ∷ []; hashes = []; exports = class_with (script_index 1) 7 ∷ []; imported = [] });
}

abbrev pub importer : Part
importer = record {
  id = 9;
  block =
      package_bytes
      (record { names = "P" ∷ "Tone_GEN_VARIABLE" ∷ []; hashes = 7 ∷ []; exports = plain 1 null_index (import_index 1 0) ∷ []; imported = "/R" ∷ "/Q" ∷ [] });
}

-- its section, wherever it stands
abbrev pub importer-section : List ℕ
importer-section =
    section_bytes 9 "P" 1
    (length_first (1 ∷ 1 ∷ 0 ∷ 2 ∷ 1 ∷ 1 ∷ texts ("Tone" ∷ "Tone_GEN_VARIABLE" ∷ "" ∷ "/Q.C" ∷ "Speaker" ∷ "package:/Q#0x0000000000000007" ∷ [])) ∷ [])

-- a package with a class of hash 1, under this id
abbrev pub with_id : ℕ → Part
with_id i = record {
  id = i;
  block = package_bytes (record { names = "P" ∷ "" ∷ "C" ∷ []; hashes = []; exports = class_with (script_index 1) 1 ∷ []; imported = [] });
}

pub record Edges : Type 0 where
  -- "kind 2 holds bits 32 to 61 as name number p and bits 0 to 31 as hash number h. It means key (id of imported name p, hash h)"
  pub import-found :
      asked (corpus_from two_objects (home ∷ importer ∷ [])) ≡ accepted (report_bytes (section_bytes (id_of (text "/Q")) "/Q" 1 [] ∷ importer-section ∷ []))
  pub import-found-backwards :
      asked (corpus_from two_objects (importer ∷ home ∷ [])) ≡ accepted (report_bytes (importer-section ∷ section_bytes (id_of (text "/Q")) "/Q" 1 [] ∷ []))
  -- "24 (block of the first class, in package and export order, whose key an earlier one has)"
  pub key_twice : asked (corpus_from two_objects (map with_id (8 ∷ 9 ∷ 9 ∷ 8 ∷ []))) ≡ refused_in 24 4
  -- "Work at least 64 × (script objects + classes + candidates) bytes? 25. Report [..] within its buffer? 26", in this order
  pub work-short : answer_within limits (corpus_of no_objects booth) 63 97 ≡ refused_in 25 0
  pub report-short : answer_within limits (corpus_of no_objects booth) 64 97 ≡ refused_in 26 0
  pub just_enough : number_of (answer_within limits (corpus_of no_objects booth) 64 98) ≡ 98
