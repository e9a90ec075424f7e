-- Laws of rows that say their kind by a number: what holds of rows holds of them for every number, kind 1 being number 1. Assumes nothing.
use Rattle.std.specs.Prelude.{◌≡◌, Bool, true, false, cond, List, ◌++◌, ℕ, ◌+◌, ◌*◌, ◌-◌, ◌≤◌, ◌<◌, eqb, length, take, Some}
use Rattle.std.proofs.Math.Path.{refl}
use Rattle.std.proofs.Common.{arith}
use Rattle.text.specs.Affix.{starts_with, ends_with}
use Rattle.text.specs.AffixLaws.{unit_size}
use Rattle.base.specs.Find.{option}
use Rattle.text.specs.Name.{text_bytes}
use Rattle.base.specs.NumberLaws.{Bytes}
use Rattle.text.specs.Utf8.{utf8}
use Rattle.batch.specs.Holds.{Holds}
use Rattle.batch.specs.declared.places.Name.{Name}
use Rattle.zen.specs.declared.tables.Export.{Export}
use Rattle.zen.specs.Zen.{Read, base_of, export_name, package_name}
use Rattle.meaning.specs.Scan.{outer_of, outer_name, candidate_kind, class_path, instance_name, gen_variable, default_start}
use Rattle.packages.specs.ClassPath.{path_bytes, path-is}
use Rattle.packages.specs.Kinds.{candidate_of, variable-number, number-one, one-number, number-of}
use Rattle.packages.specs.Numbered.{kind_row, numbered_in}
use Rattle.packages.specs.Package.{read_in, PackageIn}
use Rattle.packages.specs.Row.{export_no, name_in, row_in, base_at, whole_at, instance_base, instance_at, shorter, instance_place, names_at, RowHolds}
use Rattle.packages.specs.RowLaws.{kind-holds, row-holds, row-names, instance-size, instance-whole, instance-room}
use Rattle.packages.specs.declared.package.Parts.{Parts}
use Rattle.packages.specs.declared.numbered.NumberedRow.{NumberedRow}

-- the row of number k is that of the kind with the number
pub numbered-row : (b : List ℕ) (p : Parts) (k i : ℕ) → kind_row (numbered_in b p k i) ≡ row_in b p (candidate_of k) i
unfolding numbered_in row_in
numbered-row b p k i = refl

-- what it says of its export
module _ (b : List ℕ) (p : Parts) (k i : ℕ) where
  pub number-kind : (numbered_in b p k i).kind ≡ k
  unfolding numbered_in
  number-kind = refl

  pub number-own : (numbered_in b p k i).own ≡ name_in b p (export_no b i)
  unfolding numbered_in
  number-own = refl

  pub number-class : (numbered_in b p k i).class ≡ (export_no b i).class
  unfolding numbered_in
  number-class = refl

-- ---- the instance, by the number

pub number-base : (b : List ℕ) (w : NumberedRow)
    → instance_base b (kind_row w) ≡ cond (eqb w.kind 1) (take (length (base_at b w.own) - length gen_variable) (base_at b w.own)) (base_at b w.own)
number-base b w = rw (variable-number w.kind)

pub number-place : (w : NumberedRow) → instance_place (kind_row w) ≡ cond (eqb w.kind 1) (shorter w.own.place) w.own.place
unfolding instance_place
number-place w = rw (variable-number w.kind)

-- ---- a row's places

-- a row holds its names where its places hold texts and, of number 1, its name has the ending
pub places-hold : (b : List ℕ) (w : NumberedRow) → Holds b w.own.place (base_at b w.own)
    → ((u : Name) → w.outer ≡ Some u → Holds b u.place (base_at b u)) → (w.kind ≡ 1 → ends_with (base_at b w.own) gen_variable ≡ true) → RowHolds b (kind_row w)
places-hold b w own outer has = record { own = own; outer = outer; ends = λ z. has (one-number w.kind z) }

pub candidate-small : (r : Read) (e : Export) → candidate_kind r e ≤ 2
unfolding candidate_kind
candidate-small r e = go (ends_with (base_of r e) gen_variable) (option false (λ (u : Export). starts_with (base_of r u) default_start) (outer_of r e))
  where
    go : (s t : Bool) → cond s 1 (cond t 2 0) ≤ 2
    go true t = omega arith
    go false true = omega arith
    go false false = omega arith

module _ {b : List ℕ} {p : Parts} (a : PackageIn b p) (y : Bytes b) (i : ℕ) (h : i < p.count) where
  -- in a package a row of any number holds its names, where one of number 1 has its ending
  pub number-holds : (k : ℕ) → (k ≡ 1 → ends_with (base_of (read_in b) (export_no b i)) gen_variable ≡ true) → RowHolds b (kind_row (numbered_in b p k i))
  number-holds k has = rw (numbered-row b p k i) (kind-holds a y i h (candidate_of k) (λ z. has (one-number k z)))

  -- so does one of a candidate's number, and one of 0
  pub candidate-holds : RowHolds b (kind_row (numbered_in b p (candidate_kind (read_in b) (export_no b i)) i))
  candidate-holds =
      let k = candidate_kind (read_in b) (export_no b i) in
      rw (numbered-row b p k i) (row-holds a y i h (candidate_of k) (number-of k (candidate-small (read_in b) (export_no b i))))

  pub zero-holds : RowHolds b (kind_row (numbered_in b p 0 i))
  zero-holds = number-holds 0 (λ z. absurd (omega arith))

  -- and of a candidate's number they are those of the row that document 01 has
  pub number-names : names_at b (kind_row (numbered_in b p (candidate_kind (read_in b) (export_no b i)) i))
      ≡ (text_bytes (instance_name (read_in b) (export_no b i)) ++ text_bytes (export_name (read_in b) (export_no b i))) ++ text_bytes (outer_name (read_in b) (export_no b i))
  number-names =
      let k = candidate_kind (read_in b) (export_no b i) in
      rw (numbered-row b p k i) (row-names a y i h (candidate_of k) (number-of k (candidate-small (read_in b) (export_no b i))))

-- ---- how long the names are (that the instance's place holds it is `instance-holds` of `kind_row w`)

module _ {b : List ℕ} {w : NumberedRow} (d : RowHolds b (kind_row w)) where
  -- number 1: the suffix's 13 bytes less
  pub number-size : w.kind ≡ 1 → length (utf8 (instance_at b (kind_row w))) + 13 ≡ length (utf8 (whole_at b w.own))
  number-size k = instance-size d (number-one w.kind k)

  pub number-whole : (w.kind ≡ 1 → ⊥) → instance_at b (kind_row w) ≡ whole_at b w.own
  number-whole n = instance-whole d (λ z. n (one-number w.kind z))

  pub number-instance-room : w.kind ≡ 1 → unit_size w.own.place.wide * 13 ≤ w.own.place.size
  number-instance-room k = instance-room d (number-one w.kind k)

-- ---- the path of a class has no kind

module _ {b : List ℕ} {p : Parts} (a : PackageIn b p) (y : Bytes b) (i : ℕ) (l : i < p.count) (home : Name) (is : whole_at b home ≡ package_name (read_in b)) where
  pub number-path : (k : ℕ) → path_bytes b home (kind_row (numbered_in b p k i)) ≡ utf8 (class_path (read_in b) (export_no b i))
  number-path k = rw (numbered-row b p k i) (path-is a y i l home is (candidate_of k))
