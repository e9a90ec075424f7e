-- `packages::rows::put_names` meets its contract: one text behind another. Assumes nothing.
use mathlib.Core.Path.{◌≡◌}
use mathlib.Core.List.{List, ◌++◌}
use Prim.Native.Nat.{ℕ, ◌+◌, ◌-◌, ◌≤◌}
use lib.ListN.{length, take, drop}
use Rattle.text.specs.Name.{text_bytes}
use Rattle.base.specs.NumberLaws.{Bytes}
use Rattle.base.specs.Output.{Wrote}
use Rattle.base.specs.OutputLaws.{wrote-rest, next-room, front_fits}
use Rattle.batch.specs.Holds.{Holds, name_at, holds-own}
use Rattle.batch.specs.declared.places.Name.{Name}
use Rattle.batch.specs.declared.places.Place.{Place}
use Rattle.packages.specs.Row.{whole_at, instance_base, instance_place, outer_at, names_at, RowHolds}
use Rattle.packages.specs.RowLaws.{instance-holds, instance-room}
use Rattle.packages.specs.declared.rows.Row.{Row}
use Rattle.packages.proofs.rows.put_names.Goals as goal

held : (b : List ℕ) (w : Row) (place : Place) → RowHolds b w → Bytes b → place ≡ instance_place w → Holds b place (instance_base b w)
held b w place d y e = rw e (instance-holds d y)

module _ (b : List ℕ) (w : Row) (n : Name) (h : Holds b n.place (instance_base b w)) (e : n.number ≡ w.own.number) (s : List ℕ)
    (room : length (names_at b w) ≤ length s) where
  abbrev first : List ℕ
  first = text_bytes (name_at b n.place n.number)

  abbrev second : List ℕ
  second = text_bytes (whole_at b w.own)

  abbrev third : List ℕ
  third = text_bytes (outer_at b w)

  is : names_at b w ≡ (first ++ second) ++ third
  unfolding names_at
  is = rw (e, h.text)

  all : length ((first ++ second) ++ third) ≤ length s
  all = rw is at room

  two : length (first ++ second) ≤ length s
  two = front_fits (first ++ second) third (length s) all

  first_fits : length first ≤ length s
  first_fits = front_fits first second (length s) two

  module _ (o : List ℕ) (i : ℕ) (v : Wrote s first o i) where
    second_fits : length second ≤ length (take (length o - i) (drop i o))
    second_fits = next-room s first second o i v two

    module _ (t : List ℕ) (j : ℕ) (x : Wrote (take (length o - i) (drop i o)) second t j) where
      abbrev both : List ℕ
      both = take i o ++ (t ++ drop (length o - i) (drop i o))

      third-fits : length third ≤ length (take (length both - (i + j)) (drop (i + j) both))
      third-fits = next-room s (first ++ second) third both (i + j) (wrote-rest v x) all

      done : (u : List ℕ) (k : ℕ) → Wrote (take (length both - (i + j)) (drop (i + j) both)) third u k
          → Wrote s (names_at b w) (take (i + j) both ++ (u ++ drop (length both - (i + j)) (drop (i + j) both))) (i + j + k)
      done u k z = rw is (wrote-rest (wrote-rest v x) z)

pub instance-requires : goal.instance-requires
instance-requires c = instance-room c.requires.0

pub put_place_text-first-requires : goal.put_place_text-first-requires
put_place_text-first-requires c =
    let h = (held _ _ _ c.requires.0 (λ j. (c.type_inv.b j).fits) c.instance.ensures.0) in
    (holds-own h, first_fits _ _ _ h c.instance.ensures.1 c.args.out.now c.requires.1)

pub put_place_text-requires : goal.put_place_text-requires
put_place_text-requires c =
    let h = (held _ _ _ c.requires.0 (λ j. (c.type_inv.b j).fits) c.instance.ensures.0) in
    (c.requires.0.own, second_fits _ _ _ h c.instance.ensures.1 _ c.requires.1 _ _ c.put_place_text-first.ensures)

pub put_outer-requires : goal.put_outer-requires
put_outer-requires c =
    let h = (held _ _ _ c.requires.0 (λ j. (c.type_inv.b j).fits) c.instance.ensures.0) in
    (c.requires.0, third-fits _ _ _ h c.instance.ensures.1 _ c.requires.1 _ _ c.put_place_text-first.ensures _ _ c.put_place_text.ensures)

pub returns : goal.returns
returns c =
    let h = (held _ _ _ c.requires.0 (λ j. (c.type_inv.b j).fits) c.instance.ensures.0) in
    done _ _ _ h c.instance.ensures.1 _ c.requires.1 _ _ c.put_place_text-first.ensures _ _ c.put_place_text.ensures _ _ c.put_outer.ensures
