-- `packages::package::Parts::put_bad_import` meets its contract: the four counts in order. Assumes nothing.
use mathlib.Core.Path.{◌≡◌}
use mathlib.Core.List.{List, ◌++◌}
use Prim.Native.Nat.{ℕ, ◌+◌, ◌-◌, ◌≤◌}
use lib.ListN.{length, take, drop}
use Rattle.text.specs.Digits.{decimal}
use Rattle.base.specs.Index.{import_name, import_hash}
use Rattle.base.specs.Literal.{quoted}
use Rattle.base.specs.Output.{Wrote}
use Rattle.base.specs.OutputLaws.{wrote-rest, next-room, front_fits}
use Rattle.packages.specs.RefBytes.{import_bad}
use Rattle.packages.specs.declared.package.Parts.{Parts}
use Rattle.packages.proofs.package.Parts.put_bad_import.Goals as goal

module _ (p : Parts) (x n h : ℕ) (e : n ≡ import_name x) (f : h ≡ import_hash x) (s : List ℕ) (room : length (import_bad p x) ≤ length s) where
  abbrev first : List ℕ
  first = (quoted "package import " ++ decimal n) ++ (quoted "/" ++ decimal h)

  abbrev second : List ℕ
  second = (quoted " outside " ++ decimal p.imported.count) ++ (quoted " packages / " ++ decimal p.publics)

  is : import_bad p x ≡ (first ++ second) ++ quoted " hashes"
  unfolding import_bad
  is = rw (← e, ← f)

  all : length ((first ++ second) ++ quoted " hashes") ≤ length s
  all = rw is at room

  first_fits : length first ≤ length s
  first_fits = front_fits first second (length s) (front_fits (first ++ second) (quoted " hashes") (length s) all)

  module _ (o : List ℕ) (i : ℕ) (v : Wrote s first o i) where
    second_fits : length second ≤ length (take (length o - i) (drop i o))
    second_fits = next-room s first second o i v (front_fits (first ++ second) (quoted " hashes") (length s) all)

    module _ (t : List ℕ) (j : ℕ) (w : Wrote (take (length o - i) (drop i o)) second t j) where
      abbrev both : List ℕ
      both = take i o ++ (t ++ drop (length o - i) (drop i o))

      third-fits : length (quoted " hashes") ≤ length (take (length both - (i + j)) (drop (i + j) both))
      third-fits = next-room s (first ++ second) (quoted " hashes") both (i + j) (wrote-rest v w) all

      done : (u : List ℕ) (k : ℕ) → Wrote (take (length both - (i + j)) (drop (i + j) both)) (quoted " hashes") u k
          → Wrote s (import_bad p x) (take (i + j) both ++ (u ++ drop (length both - (i + j)) (drop (i + j) both))) (i + j + k)
      done u k z = rw is (wrote-rest (wrote-rest v w) z)

pub put_numbers-n-requires : goal.put_numbers-n-requires
put_numbers-n-requires c = search first_fits

pub put_numbers-n-requires-2 : goal.put_numbers-n-requires-2
put_numbers-n-requires-2 c = search second_fits

pub put_bytes-requires : goal.put_bytes-requires
put_bytes-requires c = search third-fits

pub returns : goal.returns
returns c = search done
