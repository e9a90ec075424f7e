-- `packages::package::Parts::put_bad_export` meets its contract: the two counts in order. Assumes nothing.
use mathlib.Core.Path.{◌≡◌, refl}
use mathlib.Core.List.{List, ◌++◌}
use Prim.Native.Nat.{ℕ, ◌+◌, ◌-◌, ◌≤◌}
use lib.ListN.{length, take, drop}
use Rattle.text.specs.Digits.{decimal}
use Rattle.base.specs.Literal.{quoted}
use Rattle.base.specs.Output.{Wrote}
use Rattle.base.specs.OutputLaws.{wrote-rest, next-room, front_fits}
use Rattle.packages.specs.RefBytes.{export_bad}
use Rattle.packages.specs.declared.package.Parts.{Parts}
use Rattle.packages.proofs.package.Parts.put_bad_export.Goals as goal

module _ (p : Parts) (x : ℕ) (s : List ℕ) (room : length (export_bad p x) ≤ length s) where
  abbrev front : List ℕ
  front = (quoted "local export " ++ decimal x) ++ (quoted " outside " ++ decimal p.count)

  is : export_bad p x ≡ front ++ quoted " exports"
  unfolding export_bad
  is = refl

  all : length (front ++ quoted " exports") ≤ length s
  all = rw is at room

  front-room : length front ≤ length s
  front-room = front_fits front (quoted " exports") (length s) all

  module _ (o : List ℕ) (i : ℕ) (v : Wrote s front o i) where
    rest-room : length (quoted " exports") ≤ length (take (length o - i) (drop i o))
    rest-room = next-room s front (quoted " exports") o i v all

    done : (t : List ℕ) (j : ℕ) → Wrote (take (length o - i) (drop i o)) (quoted " exports") t j
        → Wrote s (export_bad p x) (take i o ++ (t ++ drop (length o - i) (drop i o))) (i + j)
    done t j w = rw is (wrote-rest v w)

pub put_numbers-n-requires : goal.put_numbers-n-requires
put_numbers-n-requires c = search front-room

pub put_bytes-requires : goal.put_bytes-requires
put_bytes-requires c = search rest-room

pub returns : goal.returns
returns c = search done
