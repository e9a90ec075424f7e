-- `scan_header` (document 01, "scan.rs"): outers, classes and candidates. Assumes nothing.
use Rattle.std.specs.Prelude.{Bool, false, cond, not, ◌&&◌, ◌||◌, List, [], ◌∷◌, ◌++◌, ℕ, ◌+◌, ◌-◌, eqb, length, take}
use Rattle.std.proofs.Math.Option.{Option, none}
use Rattle.text.specs.Affix.{starts_with, ends_with}
use Rattle.base.specs.Find.{get, option, kept, filter, flat}
use Rattle.base.specs.Index.{kind}
use Rattle.base.specs.Literal.{quoted}
use Rattle.text.specs.Name.{suffix}
use Rattle.scriptblock.specs.Script.{Objects}
use Rattle.zen.specs.Zen.{Read, base_of, export_name, package_name}
use Rattle.zen.specs.declared.tables.Export.{Export}
use Rattle.meaning.specs.Key.{Key, public}
use Rattle.meaning.specs.Path.{Path, path_of}
use Rattle.meaning.specs.Reference.{Package, Ref, ref_in}

-- "the export an outer of kind 0 points at, if it exists"
unfoldable pub outer_of : Read → Export → Option Export
outer_of r e = cond (eqb (kind e.outer) 0) (get r.exports e.outer) none

abbrev pub outer_name : Read → Export → List ℕ
outer_name r e = option [] (export_name r) (outer_of r e)

abbrev pub class_end : List ℕ
class_end = quoted "Class"

abbrev pub gen_variable : List ℕ
gen_variable = quoted "_GEN_VARIABLE"

abbrev pub default_start : List ℕ
default_start = quoted "Default__"

abbrev pub one_of : List ℕ → ℕ → Bool
one_of [] c = false
one_of (x ∷ l) c = eqb c x || one_of l c

-- the part of a text after its last `.` or `:`
abbrev pub last_from : List ℕ → List ℕ → List ℕ
last_from part [] = part
last_from part (c ∷ t) = cond (one_of (quoted ".:") c) (last_from t t) (last_from part t)

unfoldable pub last_part : List ℕ → List ℕ
last_part t = last_from t t

-- "an export with class of kind 1, super not kind 3, hash not 0, and a class path whose part after the last `.` or `:` ends in `Class`"
unfoldable pub is_class : ℕ → Objects → Export → Bool
is_class limit o e =
    eqb (kind e.class) 1 && not (eqb (kind e.parent) 3) && not (eqb e.hash 0)
    && option false (λ (p : Path). ends_with (last_part p.text) class_end) (path_of limit o e.class)

-- "its path is package name, `.`, [outer rendered, `:`,] rendered"
unfoldable pub class_path : Read → Export → List ℕ
class_path r e = package_name r ++ quoted "." ++ option [] (λ (u : Export). export_name r u ++ quoted ":") (outer_of r e) ++ export_name r e

-- a class: what resolution reads of it, and its number among its package's exports
pub record Class : Type 0 where
  pub key : Key
  pub path : List ℕ
  pub super : Ref
  pub export : ℕ

-- export i of a package, as a class: "Its key is (package id, hash)"; its super is read in its package
unfoldable pub class_at : Package → ℕ → Export → Class
class_at p i e = record { key = public p.id e.hash; path = class_path p.read e; super = ref_in p e.parent; export = i }

-- the classes among exports of a package, the first of which has number i
abbrev pub classes_from : ℕ → Objects → Package → ℕ → List Export → List Class
classes_from limit o p i [] = []
classes_from limit o p i (e ∷ es) = kept (is_class limit o e) (class_at p i e) (classes_from limit o p (i + 1) es)

-- the classes of a package, in export order, and of packages, in their order
unfoldable pub classes_of : ℕ → Objects → Package → List Class
classes_of limit o p = classes_from limit o p 0 p.read.exports

abbrev pub table : ℕ → Objects → List Package → List Class
table limit o ps = flat (classes_of limit o) ps

-- "Candidate kind 1: base ends in `_GEN_VARIABLE`", "Otherwise kind 2: the outer's base starts with `Default__`"; 0: none
unfoldable pub candidate_kind : Read → Export → ℕ
candidate_kind r e =
    cond (ends_with (base_of r e) gen_variable) 1
    (cond (option false (λ (u : Export). starts_with (base_of r u) default_start) (outer_of r e)) 2 0)

abbrev pub is_candidate : Read → Export → Bool
is_candidate r e = not (eqb (candidate_kind r e) 0)

-- kind 1: "instance is the rest, with the number's suffix if the number isn't 0"; kind 2: "instance is rendered"
unfoldable pub instance_name : Read → Export → List ℕ
instance_name r e =
    cond (eqb (candidate_kind r e) 1) (take (length (base_of r e) - length gen_variable) (base_of r e) ++ suffix e.number) (export_name r e)

-- '("numbered")': kind 1 with a number that isn't 0
unfoldable pub numbered : Read → Export → ℕ
numbered r e = cond (eqb (candidate_kind r e) 1 && not (eqb e.number 0)) 1 0

-- the candidates of a package, in export order
unfoldable pub candidates : Read → List Export
candidates r = filter (is_candidate r) r.exports
