-- How many bytes a path takes at most: a name takes 131,089, its separator one. Assumes nothing.
use Rattle.std.specs.Prelude.{List, ◌++◌}
use Rattle.std.proofs.Math.Option.{Option, none, some}
use Prim.Native.Nat.{ℕ, zero, suc, ◌+◌, ◌*◌, ◌≤◌, ◌<◌}
use native.Mathlib.Omega.{arith}
use Rattle.std.proofs.Math.ListN.{length}
use Rattle.std.proofs.Common.{length-append}
use Rattle.base.specs.NumberLaws.{Bytes}
use Rattle.text.specs.Utf8.{utf8_one, utf8}
use Rattle.text.specs.Utf8Laws.{utf8_append}
use Rattle.batch.specs.Holds.{holds-short}
use Rattle.scriptblock.specs.Script.{Objects, object_name}
use Rattle.meaning.specs.Path.{Path, separator, added}
use Rattle.objects.specs.Numbers.{entry_no, link_of, path_by, path_no}
use Rattle.objects.specs.NumberLaws.{link-le}
use Rattle.objects.specs.Work.{ObjectsIn}
use Rattle.objects.specs.WorkLaws.{entries-length, name_no}
use Rattle.objects.specs.PathLaws.{place-holds}
use Rattle.objects.specs.Told.{path_bytes}

separator-short : (d : ℕ) → length (utf8 (separator d)) ≤ 1
unfolding utf8_one
separator-short zero = omega arith
separator-short (suc zero) = omega arith
separator-short (suc (suc zero)) = omega arith
separator-short (suc (suc (suc d))) = omega arith

added-short : (name : List ℕ) (x : Option Path) → length (path_bytes (added name x)) ≤ length (path_bytes x) + 1 + length (utf8 name)
added-short name none = omega arith
added-short name (some p) =
    rw (utf8_append (p.text ++ separator p.depth) name, utf8_append p.text (separator p.depth)) (simp length-append (omega (arith, separator-short p.depth)))

module _ {b : List ℕ} {o : Objects} {w : List ℕ} (t : ObjectsIn b o w) (bs : Bytes b) where
  pub name-short : (i : ℕ) → i < o.layout.count → length (utf8 (object_name o (entry_no o i))) ≤ 131089
  name-short i h = rw (name_no t.all i h) (holds-short (place-holds t i h bs) (entry_no o i).number)

  pub path-short : (limit i : ℕ) → i < o.layout.count → length (path_bytes (path_no limit o i)) ≤ 131090 * limit
  unfolding path_no
  path-short zero i h = omega arith
  path-short (suc n) i h =
      let k = link_of o (entry_no o i).outer in
      let u = by k (omega (arith, link-le o (entry_no o i).outer, entries-length t.all)) (path-short n) in
      omega (arith, added-short (object_name o (entry_no o i)) (path_by (path_no n o) k), name-short i h, u)
    where
      by : (k : ℕ) → k ≤ o.layout.count + 1 → ((j : ℕ) → j < o.layout.count → length (path_bytes (path_no n o j)) ≤ 131090 * n)
          → length (path_bytes (path_by (path_no n o) k)) ≤ 131090 * n
      by zero l ih = omega arith
      by (suc zero) l ih = omega arith
      by (suc (suc j)) l ih = ih j (omega arith)
