-- What the walk measures of a package is what its rows and its section take. Assumes nothing.
use Rattle.std.specs.Prelude.{◌≡◌, List, ◌++◌, ℕ, ◌+◌, ◌<◌, Option as Maybe}
use Rattle.std.proofs.Math.Path.{refl, ap}
use Rattle.std.proofs.Math.Option.{Option, none, some}
use native.Mathlib.Omega.{arith}
use Rattle.std.proofs.Math.ListN.{length}
use Rattle.std.proofs.Common.{length-append}
use Rattle.text.specs.Name.{text_bytes}
use Rattle.text.specs.NameLaws.{text_bytes-length}
use Rattle.base.specs.NumberLaws.{Bytes}
use Rattle.text.specs.Utf8.{utf8}
use Rattle.zen.specs.Zen.{export_name}
use Rattle.zen.specs.declared.tables.Export.{Export}
use Rattle.meaning.specs.Reference.{ref_in, ref_text}
use Rattle.meaning.specs.Scan.{outer_of, outer_name, candidate_kind, instance_name}
use Rattle.packages.specs.ClassPath.{home-name}
use Rattle.packages.specs.Kinds.{candidate_number}
use Rattle.packages.specs.Package.{read_in, package_in, PackageIn}
use Rattle.packages.specs.RefBytes.{ref_bytes}
use Rattle.packages.specs.RefBytesLaws.{text_any}
use Rattle.packages.specs.Row.{export_no, home_in, row_with, row_in, whole_at, instance_at, outer_at, names_at, names_size}
use Rattle.packages.specs.RowLaws.{row-names}
use Rattle.packages.specs.declared.package.Parts.{Parts}
use Rattle.packages.specs.declared.rows.Candidate.{Candidate}
use Rattle.packages.specs.declared.rows.Row.{Row}
use Rattle.walk.specs.Found.{base_size, head_size}

-- three texts with their lengths
three : (a b c : List ℕ) → length ((text_bytes a ++ text_bytes b) ++ text_bytes c) ≡ 12 + (length (utf8 a) + length (utf8 b) + length (utf8 c))
three a b c =
    rw (length-append (text_bytes a ++ text_bytes b) (text_bytes c), length-append (text_bytes a) (text_bytes b), text_bytes-length a, text_bytes-length b, text_bytes-length c)
    (omega arith)

module _ {b : List ℕ} {p : Parts} (a : PackageIn b p) (y : Bytes b) where
  -- a section without its rows
  pub head_size_lem : (id : ℕ) → 20 + length (utf8 (whole_at b (home_in b p))) ≡ head_size (package_in id b)
  unfolding head_size
  head_size_lem id = rw (home-name a y)

  -- a row without its class and native class
  module _ (i : ℕ) (h : i < p.count) where
    abbrev e : Export
    e = export_no b i

    -- its class index
    pub row-class : (k : Maybe Candidate) → (row_in b p k i).class ≡ e.class
    unfolding row_in
    row-class k = go (outer_of (read_in b) e)
      where
        go : (u : Option Export) → (row_with b p k e u).class ≡ e.class
        go none = refl
        go (some u) = refl

    reference-size : (id : ℕ) → length (ref_bytes b e.class) ≡ length (utf8 (ref_text (ref_in (package_in id b) e.class)))
    unfolding ref_bytes
    reference-size id = rw (text_any (read_in b) id e.class)

    -- as a candidate of its kind
    module _ (k : Maybe Candidate) (c : candidate_number k ≡ candidate_kind (read_in b) e) where
      abbrev v : Row
      v = row_in b p k i

      names_size_lem : names_size b v
          ≡ length (utf8 (instance_name (read_in b) e)) + length (utf8 (export_name (read_in b) e)) + length (utf8 (outer_name (read_in b) e))
      unfolding names_size names_at
      names_size_lem =
          omega (
            arith,
            three (instance_at b v) (whole_at b v.own) (outer_at b v),
            three (instance_name (read_in b) e) (export_name (read_in b) e) (outer_name (read_in b) e),
            ap length (row-names a y i h k c),
          )

      pub base_size_lem : (id : ℕ) → 34 + names_size b v + length (ref_bytes b v.class) ≡ base_size (package_in id b) e
      unfolding base_size
      base_size_lem id = omega (arith, names_size_lem, reference-size id, ap (λ (x : ℕ). length (ref_bytes b x)) (row-class k))
