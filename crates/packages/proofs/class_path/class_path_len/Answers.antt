-- `packages::class_path::class_path_len` meets its contract. Assumes nothing.
use Rattle.std.specs.Prelude.{Some, None}
use mathlib.Core.Path.{◌≡◌}
use mathlib.Core.List.{List, ◌++◌}
use Prim.Native.Nat.{ℕ, ◌+◌, ◌≤◌}
use borrow.Author.Rules.{rules}
use native.Mathlib.Omega.{arith}
use lib.ListN.{length, length-append}
use Rattle.base.specs.Literal.{quoted}
use Rattle.text.specs.Utf8.{utf8}
use Rattle.batch.specs.Holds.{name_at}
use Rattle.packages.specs.ClassPath.{path_bytes}
use Rattle.packages.specs.Row.{whole_at}
use Rattle.batch.specs.declared.places.Name.{Name}
use Rattle.packages.specs.declared.rows.Row.{Row}
use Rattle.packages.proofs.class_path.class_path_len.Goals as goal

three-length : (h d u c o : List ℕ) → length ((h ++ (d ++ u)) ++ (c ++ o)) ≡ length h + (length d + length u) + (length c + length o)
three-length h d u c o = rw (length-append (h ++ (d ++ u)) (c ++ o), length-append h (d ++ u), length-append d u, length-append c o)

two-length : (h d o : List ℕ) → length (h ++ (d ++ o)) ≡ length h + (length d + length o)
two-length h d o = rw (length-append h (d ++ o), length-append d o)

module _ (b : List ℕ) (home : Name) (w : Row) (first own : ℕ) (e : (first ≡ length (utf8 (name_at b home.place home.number))) × (first ≤ 131089))
    (f : (own ≡ length (utf8 (name_at b w.own.place w.own.number))) × (own ≤ 131089)) where
  abbrev long : Name → List ℕ
  long u = (utf8 (whole_at b home) ++ (quoted "." ++ utf8 (whole_at b u))) ++ (quoted ":" ++ utf8 (whole_at b w.own))

  abbrev short : List ℕ
  short = utf8 (whole_at b home) ++ (quoted "." ++ utf8 (whole_at b w.own))

  nested : (u : Name) (outer : ℕ) → w.outer ≡ Some u → (outer ≡ length (utf8 (name_at b u.place u.number))) × (outer ≤ 131089)
      → first + 1 + outer + 1 + own ≡ length (path_bytes b home w)
  unfolding path_bytes
  nested u outer q g =
      let t : length (path_bytes b home w) ≡ length (long u) = rw q in
      let l : length (long u) ≡ length (utf8 (whole_at b home)) + (1 + length (utf8 (whole_at b u))) + (1 + length (utf8 (whole_at b w.own))) =
      three-length (utf8 (whole_at b home)) (quoted ".") (utf8 (whole_at b u)) (quoted ":") (utf8 (whole_at b w.own)) in
      omega (arith, t, l, e.0, f.0, g.0)

  alone : w.outer ≡ None → first + 1 + own ≡ length (path_bytes b home w)
  unfolding path_bytes
  alone q =
      let t : length (path_bytes b home w) ≡ length short = rw q in
      let l : length short ≡ length (utf8 (whole_at b home)) + (1 + length (utf8 (whole_at b w.own))) =
      two-length (utf8 (whole_at b home)) (quoted ".") (utf8 (whole_at b w.own)) in
      omega (arith, t, l, e.0, f.0)

pub place_len-requires : goal.place_len-requires
place_len-requires c = c.requires.1.outer _ c.in-Some.is

pub returns-in-Some : goal.returns-in-Some
returns-in-Some c =
    (nested _ _ _ _ _ c.place_len-first.ensures c.place_len-own.ensures _ _ c.in-Some.is c.place_len.ensures, search rules)

pub returns-in-None : goal.returns-in-None
returns-in-None c =
    (alone _ _ _ _ _ c.place_len-first.ensures c.place_len-own.ensures c.in-None.is, search rules)
