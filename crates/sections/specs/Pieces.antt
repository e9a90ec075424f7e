-- A row in the pieces in which it is written, and what the writer of each is lent. Assumes nothing.
use Rattle.std.specs.Prelude.{◌≡◌, Bool, cond, not, ◌&&◌, ◌||◌, List, [], ◌∷◌, ◌++◌, ℕ, ◌+◌, ◌≤◌, ◌<◌, leb, eqb, length}
use Rattle.base.specs.House.{length_first}
use Rattle.text.specs.Name.{text_bytes}
use Rattle.base.specs.Number.{be_bytes}
use Rattle.base.specs.Output.{Wrote}
use Rattle.scriptblock.specs.Script.{Objects}
use Rattle.meaning.specs.Reference.{ref_in}
use Rattle.meaning.specs.Scan.{Class, candidate_kind}
use Rattle.meaning.specs.Resolve.{Limits, look, path_text}
use Rattle.meaning.specs.Report.{Row as Said, or_unknown, row_version, row_of}
use Rattle.objects.specs.Work.{one_if}
use Rattle.packages.specs.Kinds.{candidate_number}
use Rattle.packages.specs.Package.{read_in, package_in}
use Rattle.packages.specs.RefBytes.{ref_bytes}
use Rattle.packages.specs.Row.{export_no, row_in}
use Rattle.packages.specs.declared.package.Parts.{Parts}
use Rattle.packages.specs.declared.rows.Row.{Row}
use Rattle.resolve.specs.Rows.{limits_of}
use Rattle.sections.specs.Written.{is_some, Target}
use Rattle.resolve.specs.declared.rows.Led.{Led}
use Rattle.sections.specs.declared.texts.Texts.{Texts}

-- a row's six texts, one behind another
unfoldable pub row_texts : Said → List ℕ
row_texts r =
    (text_bytes r.instance ++ text_bytes r.export ++ text_bytes r.outer) ++ text_bytes (or_unknown r.class) ++ text_bytes (or_unknown (path_text r.native))
    ++ text_bytes r.reference

-- the text of a reference: its bytes behind their length
abbrev pub reference_text : List ℕ → ℕ → List ℕ
reference_text b x = length_first (ref_bytes b x)

-- "script found, script unresolved, ..": the kind of a reference that was found, or one more, but for null and bad
abbrev pub kind_for : ℕ → Bool → ℕ
kind_for kind known = cond (known || leb 6 kind) kind (kind + 1)

-- '("numbered")', from the candidate
abbrev pub numbered_as : Row → ℕ
numbered_as v = one_if (eqb (candidate_number v.kind) 1 && not (eqb v.own.number 0))

-- what stands before the texts: the length of the rest, and six bytes
unfoldable pub row_front : Row → ℕ → Texts → List ℕ
row_front v kind t =
    be_bytes 4 (6 + t.size) ++ (row_version ∷ candidate_number v.kind ∷ numbered_as v ∷ kind_for kind t.class ∷ one_if t.class ∷ one_if t.native ∷ [])

-- row of export i of the package with this id, whose block d is
abbrev pub row_no : Limits → List Class → Objects → ℕ → List ℕ → ℕ → Said
row_no m xs o id d i = row_of m (look xs) o (package_in id d) (export_no d i)

-- v is that export as a candidate, and l is where its class index leads
pub record RowDue (s b : List ℕ) (n objects : ℕ) (w d : List ℕ) (p : Parts) (v : Row) (l : Led) (o : Objects) (xs : List Class) (lookups id i : ℕ) : Type 0 where
  pub inside : i < p.count
  pub kind_is : candidate_number v.kind ≡ candidate_kind (read_in d) (export_no d i)
  pub row_is : v ≡ row_in d p v.kind i
  pub target : Target s b o n xs lookups objects w (ref_in (package_in id d) (export_no d i).class) l

pub record TextsRoom (s b : List ℕ) (n objects : ℕ) (w d : List ℕ) (p : Parts) (v : Row) (l : Led) (out : List ℕ) : Type 0 where
  pub read : Objects
  pub classes : List Class
  pub lookups : ℕ
  pub id : ℕ
  pub number : ℕ
  pub due : RowDue s b n objects w d p v l read classes lookups id number
  pub room : length (row_texts (row_no (limits_of lookups objects) classes read id d number)) ≤ length out

-- the texts were written
pub record TextsPut (r : Said) (old new : List ℕ) (t : Texts) : Type 0 where
  pub wrote : Wrote old (row_texts r) new t.size
  pub class : t.class ≡ is_some r.class
  pub native : t.native ≡ is_some (path_text r.native)
