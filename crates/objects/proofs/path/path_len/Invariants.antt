-- `path::path_len` meets its contract. The loop's invariant: what is told is what is told of the object at hand, of at most as many objects as are
-- left, behind the bytes and objects passed. Each name takes fewer than 2^32 bytes, its separator included no more. Assumes nothing.
use mathlib.Core.List.{List}
use mathlib.Core.Path.{◌≡◌}
use Prim.Native.Nat.{ℕ, ◌*◌, ◌-◌, ◌≤◌, ◌<◌}
use lib.ListN.{length}
use Rattle.scriptblock.specs.Script.{Objects}
use Rattle.objects.specs.Numbers.{path_no}
use Rattle.objects.specs.Work.{ObjectsIn}
use Rattle.objects.specs.Told.{told}
use Rattle.objects.specs.ToldLaws.{behind}
use Rattle.objects.proofs.path.path_len.Given as goal

abbrev pub invariant-loop-depth : goal.invariant-loop-depth
invariant-loop-depth l =
    (56 * l.at < length l.w) × (l.len ≤ l.depth * 4294967296)
    × ((b : List ℕ) (o : Objects) → ObjectsIn b o l.w → told (path_no l.limit o l.i) ≡ behind l.len l.depth (told (path_no (l.limit - l.depth) o l.at)))
