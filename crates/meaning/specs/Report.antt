-- Rows, sections, the report (document 01, "Report"). Assumes nothing.
use Rattle.std.specs.Prelude.{List, [], ◌∷◌, ◌++◌, ℕ, ◌+◌, length}
use Rattle.std.proofs.Math.Option.{Option, none, some}
use Rattle.base.specs.Find.{flat}
use Rattle.base.specs.House.{length_first}
use Rattle.base.specs.Literal.{quoted}
use Rattle.text.specs.Name.{text_bytes}
use Rattle.base.specs.Number.{be_bytes}
use Rattle.text.specs.Utf8.{utf8}
use Rattle.scriptblock.specs.Script.{Objects}
use Rattle.zen.specs.Zen.{export_name, package_name}
use Rattle.zen.specs.declared.tables.Export.{Export}
use Rattle.meaning.specs.Key.{Key}
use Rattle.meaning.specs.Path.{Path}
use Rattle.meaning.specs.Reference.{Package, Ref, ref_in, ref_text}
use Rattle.meaning.specs.Scan.{Class, outer_name, candidate_kind, instance_name, numbered, candidates, table}
use Rattle.meaning.specs.Resolve.{Limits, look, native_of, resolve, path_text}

-- "version 1" of the report, and of a row
abbrev pub report_version : ℕ
report_version = 1

abbrev pub row_version : ℕ
row_version = 1

-- what a row says
pub record Row : Type 0 where
  pub kind : ℕ
  pub numbered : ℕ
  pub class_kind : ℕ
  pub instance : List ℕ
  pub export : List ℕ
  pub outer : List ℕ
  -- if they were found; the native class with the depth of its path
  pub class : Option (List ℕ)
  pub native : Option Path
  pub reference : List ℕ

-- "a known flag is 1 exactly where the text was found, else 0"; "Unknown text is `?`"
abbrev pub flag : {A : Type 0} → Option A → ℕ
flag none = 0
flag (some t) = 1

abbrev pub or_unknown : Option (List ℕ) → List ℕ
or_unknown none = quoted "?"
or_unknown (some t) = t

-- "bytes version 1, kind, numbered, class kind, class known, native known, texts instance, export rendered, outer rendered (empty
-- without one), class, native, reference"
unfoldable pub row_rest : Row → List ℕ
row_rest r =
    (row_version ∷ r.kind ∷ r.numbered ∷ r.class_kind ∷ flag r.class ∷ flag r.native ∷ [])
    ++ text_bytes r.instance
    ++ text_bytes r.export
    ++ text_bytes r.outer
    ++ text_bytes (or_unknown r.class)
    ++ text_bytes (or_unknown (path_text r.native))
    ++ text_bytes r.reference

-- "Row: 4-byte length of the rest", and the rest
unfoldable pub row_bytes : Row → List ℕ
row_bytes r = length_first (row_rest r)

-- a row's length, from the lengths of its texts: length field, six bytes, six texts with their length fields
abbrev pub size : List ℕ → ℕ
size t = length (utf8 t)

unfoldable pub row_size : Row → ℕ
row_size r =
    34 + size r.instance + size r.export + size r.outer + size (or_unknown r.class) + size (or_unknown (path_text r.native)) + size r.reference

-- a row's reference: the class index of its export, read in its package
abbrev pub class_ref : Package → Export → Ref
class_ref p e = ref_in p e.class

-- the row of a candidate; f: the class that has a key
unfoldable pub row_of : Limits → (Key → Option Class) → Objects → Package → Export → Row
row_of m f o p e = record {
  kind = candidate_kind p.read e;
  numbered = numbered p.read e;
  class_kind = (resolve m f o (class_ref p e)).kind;
  instance = instance_name p.read e;
  export = export_name p.read e;
  outer = outer_name p.read e;
  class = (resolve m f o (class_ref p e)).class;
  native = native_of m f o (class_ref p e);
  reference = ref_text (class_ref p e);
}

-- "8-byte id, text of the package name, 4-byte export count, 4-byte row count, rows in export order"
unfoldable pub section : Limits → (Key → Option Class) → Objects → Package → List ℕ
section m f o p =
    be_bytes 8 p.id ++ text_bytes (package_name p.read) ++ be_bytes 4 (length p.read.exports)
    ++ be_bytes 4 (length (candidates p.read)) ++ flat (λ e. row_bytes (row_of m f o p e)) (candidates p.read)

-- "4-byte length of the rest, version 1, 4-byte package count, a section per package in corpus order"
unfoldable pub report_of : Limits → Objects → List Package → List ℕ
report_of m o ps = length_first (report_version ∷ (be_bytes 4 (length ps) ++ flat (section m (look (table m.objects o ps)) o) ps))
