-- `packages::block::Package::put_import` meets its contract. Assumes nothing.
use mathlib.Core.Path.{◌≡◌, refl}
use mathlib.Core.List.{List, [], ◌++◌}
use Prim.Native.Nat.{ℕ, ◌+◌, ◌-◌, ◌≤◌}
use lib.ListN.{length, take, drop, get_or}
use Rattle.text.specs.Digits.{hex}
use Rattle.base.specs.Index.{import_name, import_hash}
use Rattle.base.specs.Literal.{quoted}
use Rattle.text.specs.Utf8.{utf8}
use Rattle.base.specs.Output.{Wrote}
use Rattle.base.specs.OutputLaws.{wrote-rest, next-room, front_fits}
use Rattle.batch.specs.Holds.{Holds, name_at, holds-own}
use Rattle.batch.specs.declared.places.Place.{Place}
use Rattle.packages.specs.Package.{read_in}
use Rattle.packages.specs.RefBytes.{import_bytes}
use Rattle.packages.proofs.block.Package.put_import.Goals as goal

module _ (b : List ℕ) (x i j hash number : ℕ) (place : Place) (e : i ≡ import_name x) (f : j ≡ import_hash x) (d : Holds b place (get_or (read_in b).imported i []))
    (g : number ≡ get_or (read_in b).numbers i 0) (h : hash ≡ get_or (read_in b).hashes j 0) (s : List ℕ) where
  abbrev front : List ℕ
  front = quoted "package:" ++ utf8 (name_at b place number)

  is : import_bytes (read_in b) x ≡ front ++ (quoted "#0x" ++ hex 16 hash)
  unfolding import_bytes
  is = rw (h, g, d.text, ← e, ← f)

  front-room : length (import_bytes (read_in b) x) ≤ length s → length front ≤ length s
  front-room l = front_fits front (quoted "#0x" ++ hex 16 hash) (length s) (rw is at l)

  module _ (o : List ℕ) (n : ℕ) (v : Wrote s front o n) where
    rest-room : length (import_bytes (read_in b) x) ≤ length s → length (quoted "#0x" ++ hex 16 hash) ≤ length (take (length o - n) (drop n o))
    rest-room l = next-room s front (quoted "#0x" ++ hex 16 hash) o n v (rw is at l)

    done : (t : List ℕ) (m : ℕ) → Wrote (take (length o - n) (drop n o)) (quoted "#0x" ++ hex 16 hash) t m
        → Wrote s (import_bytes (read_in b) x) (take n o ++ (t ++ drop (length o - n) (drop n o))) (n + m)
    done t m w = rw is (wrote-rest v w)

pub put_behind-n-requires : goal.put_behind-n-requires
put_behind-n-requires c =
    let d = c.imported_name.ensures.1 in
    let n = c.imported_name.ensures.2 in
    (holds-own d, front-room _ _ _ _ _ _ _ c.import_name-i.ensures refl d n refl _ c.requires.2)

pub put_index-requires : goal.put_index-requires
put_index-requires c =
    let d = c.imported_name.ensures.1 in
    let n = c.imported_name.ensures.2 in
    let h = c.hash-hash.ensures in
    rest-room _ _ _ _ _ _ _ c.import_name-i.ensures c.import_hash.ensures d n h _ _ _ c.put_behind-n.ensures c.requires.2

pub returns : goal.returns
returns c =
    let d = c.imported_name.ensures.1 in
    let n = c.imported_name.ensures.2 in
    let h = c.hash-hash.ensures in
    done _ _ _ _ _ _ _ c.import_name-i.ensures c.import_hash.ensures d n h _ _ _ c.put_behind-n.ensures _ _ c.put_index.ensures
