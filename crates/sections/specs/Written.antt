-- What the writers are lent: the resolved work buffer, and room for what they write. Assumes nothing.
use Rattle.std.specs.Prelude.{◌≡◌, Bool, true, false, List, ◌++◌, ℕ, ◌*◌, ◌≤◌, ◌<◌, length, drop}
use Rattle.std.proofs.Math.Option.{Option, none, some}
use Rattle.text.specs.Name.{text_bytes}
use Rattle.base.specs.Output.{Wrote}
use Rattle.scriptblock.specs.Script.{Objects}
use Rattle.meaning.specs.Reference.{Ref, ref_in}
use Rattle.meaning.specs.Resolve.{Limits, look, native_of, resolve, path_text}
use Rattle.meaning.specs.Report.{or_unknown, row_of, row_bytes, report_of}
use Rattle.meaning.specs.Scan.{Class, candidate_kind}
use Rattle.packages.specs.Kinds.{candidate_number}
use Rattle.packages.specs.Package.{read_in, package_in}
use Rattle.packages.specs.Row.{export_no, row_in}
use Rattle.packages.specs.Walk.{packages_at}
use Rattle.packages.specs.declared.package.Parts.{Parts}
use Rattle.packages.specs.declared.rows.Row.{Row}
use Rattle.resolve.specs.Classes.{class_no, ClassesIn}
use Rattle.resolve.specs.Rows.{class_number, object_number, columns_of, limits_of, Tables}
use Rattle.pool.specs.Pool.{TextIn, Pooled}
use Rattle.walk.specs.Found.{classes_in, found_in}
use Rattle.resolve.specs.declared.rows.Led.{Led}
use Rattle.sections.specs.declared.texts.Texts.{Texts}
use Rattle.sections.specs.declared.texts.Told.{Told}

-- "a known flag is 1 exactly where the text was found"
abbrev pub is_some : {A : Type 0} → Option A → Bool
is_some none = false
is_some (some a) = true

-- the text of t, or `?`, was written with its length
pub record Put (t : Option (List ℕ)) (old new : List ℕ) (r : Told) : Type 0 where
  pub wrote : Wrote old (text_bytes (or_unknown t)) new r.size
  pub known : r.known ≡ is_some t

-- l is where the reference r leads, in a work buffer with these tables, and what it keeps of texts is right
pub record Target (s b : List ℕ) (o : Objects) (n : ℕ) (xs : List Class) (lookups objects : ℕ) (w : List ℕ) (r : Ref) (l : Led) : Type 0 where
  pub tables : Tables s b o n xs w
  pub class : l.class ≡ class_number xs r
  pub object : l.object ≡ columns_of b o (object_number lookups xs o r)
  pub text : TextIn s b n (length xs) objects 0 (length w) w l

-- the class and the native class of a reference
abbrev pub class_of : Limits → List Class → Objects → Ref → Option (List ℕ)
class_of m xs o r = (resolve m (look xs) o r).class

abbrev pub native_text : Limits → List Class → Objects → Ref → Option (List ℕ)
native_text m xs o r = path_text (native_of m (look xs) o r)

-- the texts of both, and that they were written
abbrev pub both_texts : Limits → List Class → Objects → Ref → List ℕ
both_texts m xs o r = text_bytes (or_unknown (class_of m xs o r)) ++ text_bytes (or_unknown (native_text m xs o r))

pub record BothPut (m : Limits) (xs : List Class) (o : Objects) (r : Ref) (old new : List ℕ) (t : Texts) : Type 0 where
  pub wrote : Wrote old (both_texts m xs o r) new t.size
  pub class : t.class ≡ is_some (class_of m xs o r)
  pub native : t.native ≡ is_some (native_text m xs o r)

-- class i of the corpus s is entered, and the buffer has room for its text
pub record ClassRoom (s : List ℕ) (n i : ℕ) (w out : List ℕ) : Type 0 where
  pub front : 56 * n ≤ length w
  pub classes : List Class
  pub holds : ClassesIn s (2 * n) classes (drop (56 * n) w)
  pub inside : i < length classes
  pub room : length (text_bytes (class_no classes i).path) ≤ length out

-- some reference leads to l, and the buffer has room for its native class (for class and native class, its whole row)
pub record NativeRoom (b : List ℕ) (n objects : ℕ) (w : List ℕ) (l : Led) (out : List ℕ) : Type 0 where
  pub corpus : List ℕ
  pub read : Objects
  pub classes : List Class
  pub lookups : ℕ
  pub ref : Ref
  pub target : Target corpus b read n classes lookups objects w ref l
  pub room : length (text_bytes (or_unknown (native_text (limits_of lookups objects) classes read ref))) ≤ length out

pub record BothRoom (s b : List ℕ) (n objects : ℕ) (w : List ℕ) (l : Led) (out : List ℕ) : Type 0 where
  pub read : Objects
  pub classes : List Class
  pub lookups : ℕ
  pub ref : Ref
  pub target : Target s b read n classes lookups objects w ref l
  pub room : length (both_texts (limits_of lookups objects) classes read ref) ≤ length out

-- the row of export i of the package with this id, whose block d is
abbrev pub row_for : Limits → List Class → Objects → ℕ → List ℕ → ℕ → List ℕ
row_for m xs o id d i = row_bytes (row_of m (look xs) o (package_in id d) (export_no d i))

pub record RowRoom (s b : List ℕ) (n objects : ℕ) (w d : List ℕ) (p : Parts) (v : Row) (l : Led) (out : List ℕ) : Type 0 where
  pub read : Objects
  pub classes : List Class
  pub lookups : ℕ
  pub id : ℕ
  pub number : ℕ
  pub inside : number < p.count
  pub kind_is : candidate_number v.kind ≡ candidate_kind (read_in d) (export_no d number)
  pub row_is : v ≡ row_in d p v.kind number
  pub target : Target s b read n classes lookups objects w (ref_in (package_in id d) (export_no d number).class) l
  pub room : length (row_for (limits_of lookups objects) classes read id d number) ≤ length out

-- the report of a corpus whose n packages from a place on were read, and resolved, with texts kept
abbrev pub report_at : Limits → Objects → List ℕ → ℕ → ℕ → List ℕ
report_at m o s at count = report_of m o (packages_at s at count)

pub record Ready (s b : List ℕ) (o : Objects) (n at count lookups objects : ℕ) (w : List ℕ) : Type 0 where
  pub holds : Pooled s b o n (classes_in (found_in objects o s at count)) lookups objects (found_in objects o s at count).refs w

pub record ReportRoom (s b : List ℕ) (n at count objects : ℕ) (w out : List ℕ) : Type 0 where
  pub read : Objects
  pub lookups : ℕ
  pub ready : Ready s b read n at count lookups objects w
  pub room : length (report_at (limits_of lookups objects) read s at count) ≤ length out
  pub small : length (report_at (limits_of lookups objects) read s at count) ≤ 4294967299
