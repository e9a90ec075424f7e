-- `packages::class_path::put_class_path` meets its contract: name behind name. Assumes nothing.
use Rattle.std.specs.Prelude.{Option, Some, None}
use mathlib.Core.Path.{◌≡◌, refl, sym}
use mathlib.Core.List.{List, ◌++◌}
use Prim.Native.Nat.{ℕ, ◌+◌, ◌-◌, ◌≤◌}
use lib.ListN.{length, take, drop}
use Rattle.base.specs.Literal.{quoted}
use Rattle.base.specs.Output.{Wrote}
use Rattle.base.specs.OutputLaws.{wrote_as, wrote-rest, next-room, front_fits}
use Rattle.text.specs.Utf8.{utf8}
use Rattle.packages.specs.ClassPath.{path_bytes}
use Rattle.packages.specs.Row.{whole_at}
use Rattle.batch.specs.declared.places.Name.{Name}
use Rattle.packages.specs.declared.rows.Row.{Row}
use Rattle.packages.proofs.class_path.put_class_path.Goals as goal

module _ (b : List ℕ) (home : Name) (w : Row) where
  abbrev first : List ℕ
  first = utf8 (whole_at b home)

  abbrev outer : Name → List ℕ
  outer u = quoted "." ++ utf8 (whole_at b u)

  abbrev last : List ℕ
  last = quoted ":" ++ utf8 (whole_at b w.own)

  nested_is : (u : Name) → w.outer ≡ Some u → path_bytes b home w ≡ (first ++ outer u) ++ last
  unfolding path_bytes
  nested_is u q = rw q

  alone-is : w.outer ≡ None → path_bytes b home w ≡ first ++ outer w.own
  unfolding path_bytes
  alone-is q = rw q

  module _ (s : List ℕ) (room : length (path_bytes b home w) ≤ length s) where
    alone-fits : w.outer ≡ None → length (first ++ outer w.own) ≤ length s
    alone-fits q = rw (alone-is q) at room

    nested-fits : (u : Name) → w.outer ≡ Some u → length ((first ++ outer u) ++ last) ≤ length s
    nested-fits u q = rw (nested_is u q) at room

    two-fit : (u : Name) → w.outer ≡ Some u → length (first ++ outer u) ≤ length s
    two-fit u q = front_fits (first ++ outer u) last (length s) (nested-fits u q)

    first_fits : length first ≤ length s
    first_fits = go w.outer refl
      where
        go : (o : Option Name) → w.outer ≡ o → length first ≤ length s
        go None q = front_fits first (outer w.own) (length s) (alone-fits q)
        go (Some u) q = front_fits first (outer u) (length s) (two-fit u q)

    module _ (o : List ℕ) (i : ℕ) (v : Wrote s first o i) where
      only-fits : w.outer ≡ None → length (outer w.own) ≤ length (take (length o - i) (drop i o))
      only-fits q = next-room s first (outer w.own) o i v (alone-fits q)

      only-done : (t : List ℕ) (j : ℕ) → w.outer ≡ None → Wrote (take (length o - i) (drop i o)) (outer w.own) t j
          → Wrote s (path_bytes b home w) (take i o ++ (t ++ drop (length o - i) (drop i o))) (i + j)
      only-done t j q x = wrote_as (wrote-rest v x) (sym (alone-is q))

      module _ (u : Name) (q : w.outer ≡ Some u) where
        outer-fits : length (outer u) ≤ length (take (length o - i) (drop i o))
        outer-fits = next-room s first (outer u) o i v (two-fit u q)

        module _ (t : List ℕ) (j : ℕ) (x : Wrote (take (length o - i) (drop i o)) (outer u) t j) where
          abbrev both : List ℕ
          both = take i o ++ (t ++ drop (length o - i) (drop i o))

          last_fits : length last ≤ length (take (length both - (i + j)) (drop (i + j) both))
          last_fits = next-room s (first ++ outer u) last both (i + j) (wrote-rest v x) (nested-fits u q)

          done : (r : List ℕ) (k : ℕ) → Wrote (take (length both - (i + j)) (drop (i + j) both)) last r k
              → Wrote s (path_bytes b home w) (take (i + j) both ++ (r ++ drop (length both - (i + j)) (drop (i + j) both))) (i + j + k)
          done r k z = wrote_as (wrote-rest (wrote-rest v x) z) (sym (nested_is u q))

pub put_place-first-requires : goal.put_place-first-requires
put_place-first-requires c = (c.requires.0, first_fits _ _ _ _ c.requires.2)

pub put_behind-requires : goal.put_behind-requires
put_behind-requires c =
    let q = c.in-Some.is in
    (c.requires.1.outer _ q, outer-fits _ _ _ _ c.requires.2 _ _ c.put_place-first.ensures _ q)

pub put_behind-requires-in-Some : goal.put_behind-requires-in-Some
put_behind-requires-in-Some c =
    (c.requires.1.own, last_fits _ _ _ _ c.requires.2 _ _ c.put_place-first.ensures _ c.in-Some.is _ _ c.put_behind.ensures)

pub returns-in-Some : goal.returns-in-Some
returns-in-Some c =
    let q = c.in-Some.is in
    done _ _ _ _ c.requires.2 _ _ c.put_place-first.ensures _ q _ _ c.put_behind.ensures _ _ c.put_behind-in-Some.ensures

pub put_behind-requires-in-None : goal.put_behind-requires-in-None
put_behind-requires-in-None c = (c.requires.1.own, only-fits _ _ _ _ c.requires.2 _ _ c.put_place-first.ensures c.in-None.is)

pub returns-in-None : goal.returns-in-None
returns-in-None c =
    only-done _ _ _ _ c.requires.2 _ _ c.put_place-first.ensures _ _ c.in-None.is c.put_behind-in-None.ensures
