-- A class's path from the places of its names (document 01: "its path is package name, `.`, [outer rendered, `:`,] rendered"). Assumes nothing.
use Rattle.std.specs.Prelude.{◌≡◌, Bool, List, [], ◌++◌, ℕ, ◌<◌, get_or, Option as Maybe, Some, None}
use Rattle.std.proofs.Math.Path.{refl}
use Rattle.std.proofs.Common.{sym, append_assoc, append-nil}
use Rattle.std.proofs.Math.Bool.{true, false}
use Rattle.text.specs.Affix.{all_ascii}
use Rattle.base.specs.Literal.{quoted}
use Rattle.base.specs.NumberLaws.{Bytes}
use Rattle.text.specs.Utf8.{utf8}
use Rattle.text.specs.Utf8Laws.{utf8_append, utf8-ascii}
use Rattle.batch.specs.Holds.{Holds, holds-own}
use Rattle.zen.specs.Zen.{export_name, package_name}
use Rattle.meaning.specs.Scan.{class_path}
use Rattle.packages.specs.Package.{read_in, PackageIn}
use Rattle.packages.specs.PackageLaws.{export-named, home-named, name-holds}
use Rattle.packages.specs.Row.{export_no, is_local, name_in, home_in, row_in, base_at, whole_at}
use Rattle.packages.specs.RowLaws.{outer-some, outer-none}
use Rattle.batch.specs.declared.places.Name.{Name}
use Rattle.packages.specs.declared.package.Parts.{Parts}
use Rattle.packages.specs.declared.rows.Candidate.{Candidate}
use Rattle.packages.specs.declared.rows.Row.{Row}

abbrev path_with : List ℕ → Name → Name → Maybe Name → List ℕ
path_with b home own (Some u) = (utf8 (whole_at b home) ++ (quoted "." ++ utf8 (whole_at b u))) ++ (quoted ":" ++ utf8 (whole_at b own))
path_with b home own None = utf8 (whole_at b home) ++ (quoted "." ++ utf8 (whole_at b own))

unfoldable pub path_bytes : List ℕ → Name → Row → List ℕ
path_bytes b home w = path_with b home w.own w.outer

-- ---- the package's name

module _ {b : List ℕ} {p : Parts} (a : PackageIn b p) (y : Bytes b) where
  home-text : Holds b (home_in b p).place (get_or (read_in b).names (read_in b).layout.summary.index [])
  home-text = name-holds a y (read_in b).layout.summary.index (home-named a)

  -- what the path's functions ask, and what `path-is` asks
  pub home-holds : Holds b (home_in b p).place (base_at b (home_in b p))
  home-holds = holds-own home-text

  pub home-name : whole_at b (home_in b p) ≡ package_name (read_in b)
  home-name = rw home-text.text

-- ---- it is the class's path

path-two : (h d o : List ℕ) → all_ascii d ≡ true → utf8 h ++ (d ++ utf8 o) ≡ utf8 (h ++ d ++ [] ++ o)
path-two h d o a = sym (rw (append-nil (h ++ d), utf8_append (h ++ d) o, utf8_append h d, utf8-ascii d a) (append_assoc (utf8 h) d (utf8 o)))

path-three : (h d u c o : List ℕ) → all_ascii d ≡ true → all_ascii c ≡ true → (utf8 h ++ (d ++ utf8 u)) ++ (c ++ utf8 o) ≡ utf8 (h ++ d ++ (u ++ c) ++ o)
path-three h d u c o a e =
    sym (rw (utf8_append (h ++ d ++ (u ++ c)) o, utf8_append (h ++ d) (u ++ c), utf8_append h d, utf8_append u c, utf8-ascii d a, utf8-ascii c e) (simp append_assoc))

module _ {b : List ℕ} {p : Parts} (a : PackageIn b p) (y : Bytes b) (i : ℕ) (l : i < p.count) (home : Name) (is : whole_at b home ≡ package_name (read_in b)) where
  own_is : whole_at b (name_in b p (export_no b i)) ≡ export_name (read_in b) (export_no b i)
  own_is = rw (name-holds a y (export_no b i).index (export-named a i l)).text

  pub path-is : (k : Maybe Candidate) → path_bytes b home (row_in b p k i) ≡ utf8 (class_path (read_in b) (export_no b i))
  unfolding path_bytes row_in class_path
  path-is k = go (is_local p (export_no b i).outer) refl
    where
      go : (t : Bool) → is_local p (export_no b i).outer ≡ t → path_bytes b home (row_in b p k i) ≡ utf8 (class_path (read_in b) (export_no b i))
      go true q =
          let (g, u) = outer-some a (export_no b i) q in
          let t = (name-holds a y (export_no b (export_no b i).outer).index (export-named a (export_no b i).outer g)).text in
          rw (u, t, own_is, is)
          (path-three (package_name (read_in b)) (quoted ".") (export_name (read_in b) (export_no b (export_no b i).outer)) (quoted ":") (export_name (read_in b) (export_no b i)) refl refl)
      go false q =
          rw (outer-none a (export_no b i) q, own_is, is) (path-two (package_name (read_in b)) (quoted ".") (export_name (read_in b) (export_no b i)) refl)
