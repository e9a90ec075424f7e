-- What of a report is written of an export, of a package and of some packages, and what its writers are lent. Assumes nothing.
use Rattle.std.specs.Prelude.{◌≡◌, List, [], ◌∷◌, ◌++◌, map, ℕ, ◌+◌, ◌*◌, ◌≤◌, ◌<◌, length, drop, get_or}
use Rattle.base.specs.Find.{flat}
use Rattle.text.specs.Name.{text_bytes}
use Rattle.base.specs.Number.{be_bytes}
use Rattle.base.specs.Output.{Wrote}
use Rattle.scriptblock.specs.Script.{Objects}
use Rattle.zen.specs.Zen.{package_name}
use Rattle.zen.specs.declared.tables.Export.{Export}
use Rattle.meaning.specs.Reference.{Package, Ref, null}
use Rattle.meaning.specs.Resolve.{look}
use Rattle.meaning.specs.Report.{report_version, class_ref, row_of, row_bytes, section}
use Rattle.meaning.specs.Scan.{Class, candidates}
use Rattle.packages.specs.Package.{read_in, package_in}
use Rattle.packages.specs.Row.{export_no}
use Rattle.packages.specs.Walk.{package_at, packages_at}
use Rattle.resolve.specs.MarkLaws.{Least}
use Rattle.resolve.specs.Marks.{marks_from, MarksIn}
use Rattle.resolve.specs.Rows.{Tables, TargetIn, row_at, led_at, limits_of}
use Rattle.pool.specs.Pool.{TextIn}
use Rattle.sections.specs.declared.section.Section.{Section}

-- what a report is resolved by: the script objects, the classes, how many lookups
pub record How : Type 0 where
  pub objects : Objects
  pub classes : List Class
  pub lookups : ℕ

-- ---- what is written

-- of an export that is a candidate: its row
abbrev pub export_row : ℕ → How → Package → Export → List ℕ
export_row objects h p e = row_bytes (row_of (limits_of h.lookups objects) (look h.classes) h.objects p e)

-- of a package: its rows; with their count in front; what stands before that
abbrev pub each_row : ℕ → How → Package → List ℕ
each_row objects h p = flat (export_row objects h p) (candidates p.read)

abbrev pub all_rows : ℕ → How → Package → List ℕ
all_rows objects h p = be_bytes 4 (length (candidates p.read)) ++ each_row objects h p

abbrev pub head_of : Package → List ℕ
head_of p = be_bytes 8 p.id ++ text_bytes (package_name p.read) ++ be_bytes 4 (length p.read.exports)

-- its section, and those of packages
abbrev pub section_of : ℕ → How → Package → List ℕ
section_of objects h p = section (limits_of h.lookups objects) (look h.classes) h.objects p

abbrev pub sections_of : ℕ → How → List Package → List ℕ
sections_of objects h ps = flat (section_of objects h) ps

-- what stands before the sections: the length of the rest, version, count
abbrev pub front_of : ℕ → ℕ → List ℕ
front_of size count = be_bytes 4 size ++ (report_version ∷ []) ++ be_bytes 4 count

-- ---- what the rows' class indices mean

-- of an export that is a candidate: its reference
abbrev pub export_refs : Package → Export → List Ref
export_refs p e = class_ref p e ∷ []

-- of a package, one by one and as a list, and of packages
abbrev pub each_ref : Package → List Ref
each_ref p = flat (export_refs p) (candidates p.read)

abbrev pub refs_of : Package → List Ref
refs_of p = map (λ e. class_ref p e) (candidates p.read)

abbrev pub refs_in : List Package → List Ref
refs_in ps = flat refs_of ps

-- ---- what a writer is lent, and what it did

-- a work buffer whose rows from row r on are resolved, with texts kept: refs are what their class indices mean
pub record ResolvedFrom (c s : List ℕ) (n : ℕ) (w : List ℕ) (objects r : ℕ) (refs : List Ref) (h : How) : Type 0 where
  pub tables : Tables c s h.objects n h.classes w
  pub there : 32 * (r + length refs) ≤ length (drop (56 * n) w)
  pub targets : (k : ℕ) → k < length refs
      → TargetIn s h.objects h.classes h.lookups (drop (56 * n) w) (row_at (drop (56 * n) w) (r + k)) (get_or refs k null)
  pub texts : (k : ℕ) → k < length refs → TextIn c s n (length h.classes) objects 0 (length w) w (led_at w (row_at w (r + k)))

-- and room for the bytes
pub record Room (c s : List ℕ) (n : ℕ) (w : List ℕ) (objects r : ℕ) (refs : List Ref) (bytes out : List ℕ) (h : How) : Type 0 where
  pub resolved : ResolvedFrom c s n w objects r refs h
  pub room : length bytes ≤ length out

-- the bytes were written, with so many rows
pub record Filled (refs : List Ref) (bytes old new : List ℕ) (z : Section) : Type 0 where
  pub wrote : Wrote old bytes new z.size
  pub rows : z.rows ≡ length refs

-- with so many bytes in front
abbrev pub behind_of : ℕ → Section → Section
behind_of n z = record { size = n + z.size; rows = z.rows }

-- the marks of the rows of a package, which are row `first` and those behind it, of `all`: its block d, whose exports start in a step; what stands behind are
-- marks of later packages
pub record RowsMarked (n : ℕ) (w d : List ℕ) (step first all : ℕ) : Type 0 where
  pub before : List ℕ
  pub after : List ℕ
  pub marks : MarksIn (before ++ (marks_from (read_in d) step (read_in d).exports ++ after)) (drop (56 * n) w)
  pub first-is : length before ≡ first
  pub all-is : length (before ++ (marks_from (read_in d) step (read_in d).exports ++ after)) ≡ all
  pub later : Least (4 * (step + length (read_in d).exports)) after

-- of the rows of the package with this id, whose block d is, without and with their count; of the package at a place of the corpus
abbrev pub EachFilled : ℕ → ℕ → List ℕ → How → List ℕ → List ℕ → Section → Type 0
EachFilled objects id d h old new z = Filled (each_ref (package_in id d)) (each_row objects h (package_in id d)) old new z

abbrev pub RowsFilled : ℕ → ℕ → List ℕ → How → List ℕ → List ℕ → Section → Type 0
RowsFilled objects id d h old new z = Filled (refs_of (package_in id d)) (all_rows objects h (package_in id d)) old new z

abbrev pub SectionFilled : List ℕ → ℕ → ℕ → How → List ℕ → List ℕ → Section → Type 0
SectionFilled c objects at h old new z = Filled (refs_of (package_at c at)) (section_of objects h (package_at c at)) old new z

-- the room for each, where row r is the first, and what is done with it, however the report is resolved
module _ (c s : List ℕ) (n : ℕ) (w : List ℕ) (objects : ℕ) where
  abbrev pub ExportRoom : ℕ → ℕ → List ℕ → ℕ → List ℕ → How → Type 0
  ExportRoom r id d i out h = Room c s n w objects r (export_refs (package_in id d) (export_no d i)) (export_row objects h (package_in id d) (export_no d i)) out h

  abbrev pub ExportPut : ℕ → List ℕ → ℕ → List ℕ → List ℕ → ℕ → Type 0
  ExportPut r d i old new z = (id : ℕ) (h : How) → ExportRoom r id d i old h → Wrote old (export_row objects h (package_in id d) (export_no d i)) new z

  abbrev pub EachRoom : ℕ → ℕ → List ℕ → List ℕ → How → Type 0
  EachRoom r id d out h = Room c s n w objects r (each_ref (package_in id d)) (each_row objects h (package_in id d)) out h

  abbrev pub EachPut : ℕ → List ℕ → List ℕ → List ℕ → Section → Type 0
  EachPut r d old new z = (id : ℕ) (h : How) → EachRoom r id d old h → EachFilled objects id d h old new z

  abbrev pub RowsRoom : ℕ → ℕ → List ℕ → List ℕ → How → Type 0
  RowsRoom r id d out h = Room c s n w objects r (refs_of (package_in id d)) (all_rows objects h (package_in id d)) out h

  abbrev pub RowsPut : ℕ → List ℕ → List ℕ → List ℕ → Section → Type 0
  RowsPut r d old new z = (id : ℕ) (h : How) → RowsRoom r id d old h → RowsFilled objects id d h old new z

  abbrev pub SectionRoom : ℕ → ℕ → List ℕ → How → Type 0
  SectionRoom r at out h = Room c s n w objects r (refs_of (package_at c at)) (section_of objects h (package_at c at)) out h

  abbrev pub SectionPut : ℕ → ℕ → List ℕ → List ℕ → Section → Type 0
  SectionPut r at old new z = (h : How) → SectionRoom r at old h → SectionFilled c objects at h old new z

  -- for so many packages from a place on
  abbrev pub SectionsRoom : ℕ → ℕ → List ℕ → How → Type 0
  SectionsRoom at count out h = Room c s n w objects 0 (refs_in (packages_at c at count)) (sections_of objects h (packages_at c at count)) out h

  abbrev pub SectionsPut : ℕ → ℕ → List ℕ → List ℕ → ℕ → Type 0
  SectionsPut at count old new z = (h : How) → SectionsRoom at count old h → Wrote old (sections_of objects h (packages_at c at count)) new z
