-- `section::put_head` meets its contract: id, name and export count, one behind another. Assumes nothing.
use mathlib.Core.Path.{◌≡◌}
use mathlib.Core.List.{List, ◌++◌}
use Prim.Native.Nat.{ℕ, ◌+◌, ◌-◌, ◌≤◌}
use native.Mathlib.Omega.{arith}
use lib.ListN.{length, take, drop}
use Rattle.text.specs.Name.{text_bytes}
use Rattle.base.specs.Number.{be_bytes}
use Rattle.base.specs.NumberLaws.{Bytes, length-be_bytes}
use Rattle.base.specs.Output.{Wrote}
use Rattle.base.specs.OutputLaws.{wrote-rest, next-room, front_fits}
use Rattle.batch.specs.Holds.{Holds, text_at, name_at}
use Rattle.packages.specs.ClassPath.{home-holds, home-name}
use Rattle.packages.specs.Package.{package_in, PackageIn}
use Rattle.packages.specs.PackageLaws.{export_count_lem}
use Rattle.packages.specs.Row.{home_in}
use Rattle.batch.specs.declared.places.Name.{Name}
use Rattle.packages.specs.declared.package.Parts.{Parts}
use Rattle.sections.specs.Sections.{head_of}
use Rattle.sections.proofs.section.put_head.Goals.{After-home-home}
use Rattle.sections.proofs.section.put_head.Goals as goal

record Known (b : List ℕ) (p : Parts) (id : ℕ) (home : Name) (s : List ℕ) : Type 0 where
  pub read : PackageIn b p
  pub bytes : Bytes b
  pub at : home ≡ home_in b p
  pub fits : length (head_of (package_in id b)) ≤ length s

module _ {b : List ℕ} {p : Parts} {id : ℕ} {home : Name} {s : List ℕ} (k : Known b p id home s) where
  abbrev first : List ℕ
  first = be_bytes 8 id

  abbrev second : List ℕ
  second = text_bytes (name_at b home.place home.number)

  abbrev third : List ℕ
  third = be_bytes 4 p.count

  held : Holds b home.place (text_at b home.place)
  held = rw k.at (home-holds k.read k.bytes)

  is : head_of (package_in id b) ≡ (first ++ second) ++ third
  is = rw (k.at, home-name k.read k.bytes, export_count_lem k.read)

  all : length ((first ++ second) ++ third) ≤ length s
  all = rw is at k.fits

  two : length (first ++ second) ≤ length s
  two = front_fits (first ++ second) third (length s) all

  first_fits : 8 ≤ length s
  first_fits = omega (arith, front_fits first second (length s) two, length-be_bytes 8 id)

  module _ (o : List ℕ) (i : ℕ) (v : Wrote s first o i) where
    second_fits : length second ≤ length (take (length o - i) (drop i o))
    second_fits = next-room s first second o i v two

    module _ (t : List ℕ) (j : ℕ) (x : Wrote (take (length o - i) (drop i o)) second t j) where
      abbrev both : List ℕ
      both = take i o ++ (t ++ drop (length o - i) (drop i o))

      third-fits : 4 ≤ length (take (length both - (i + j)) (drop (i + j) both))
      third-fits = omega (arith, next-room s (first ++ second) third both (i + j) (wrote-rest v x) all, length-be_bytes 4 p.count)

      done : (u : List ℕ) (m : ℕ) → Wrote (take (length both - (i + j)) (drop (i + j) both)) third u m
          → Wrote s (head_of (package_in id b)) (take (i + j) both ++ (u ++ drop (length both - (i + j)) (drop (i + j) both))) (i + j + m)
      done u m z = rw is (wrote-rest (wrote-rest v x) z)

known : (c : After-home-home) → let a = c.args in Known a.p.now.block.bytes.now a.p.now.block.parts a.id c.home-home.result a.out.now
known c =
    record { read = c.args.p.now.block.accepted; bytes = c.args.p.now.block.fits; at = c.home-home.ensures; fits = c.requires.1 }

pub put_be64-k-requires : goal.put_be64-k-requires
put_be64-k-requires c = first_fits (known (goal.at.put_be64-k-requires c).After-home-home)

pub put_place_text-requires : goal.put_place_text-requires
put_place_text-requires c =
    let k = known (goal.at.put_place_text-requires c).After-home-home in
    (held k, second_fits k c.put_be64-k.new.out c.put_be64-k.result c.put_be64-k.ensures)

pub put_be32-requires : goal.put_be32-requires
put_be32-requires c =
    third-fits (known (goal.at.put_be32-requires c).After-home-home) c.put_be64-k.new.out c.put_be64-k.result c.put_be64-k.ensures c.put_place_text.new.out c.put_place_text.result
    c.put_place_text.ensures

pub returns : goal.returns
returns c =
    done (known (goal.at.returns c).After-home-home) c.put_be64-k.new.out c.put_be64-k.result c.put_be64-k.ensures c.put_place_text.new.out c.put_place_text.result
    c.put_place_text.ensures c.put_be32.new.out c.put_be32.result c.put_be32.ensures
