-- `class::known` meets its contract. The loop's invariant: the path is known where that of the object at hand, of at most as many objects as are
-- left, is. Assumes nothing.
use mathlib.Core.List.{List}
use mathlib.Core.Path.{◌≡◌}
use Prim.Native.Nat.{ℕ, ◌*◌, ◌-◌, ◌<◌}
use lib.ListN.{length}
use Rattle.scriptblock.specs.Script.{Objects}
use Rattle.meaning.specs.ClassTest.{is_known}
use Rattle.objects.specs.Numbers.{path_no}
use Rattle.objects.specs.Work.{ObjectsIn}
use Rattle.objects.proofs.class.known.Given as goal

abbrev pub invariant-loop : goal.invariant-loop
invariant-loop l =
    (56 * l.at < length l.w)
    × ((b : List ℕ) (o : Objects) → ObjectsIn b o l.w → is_known (path_no l.limit o l.i) ≡ is_known (path_no (l.limit - l.counter) o l.at))
