-- `rows::resolve_all` meets its contract. The loop's invariant: the first r rows are resolved, the others are as they were kept, all marks too, and the
-- total is that of the first r. Assumes nothing.
use mathlib.Core.List.{List}
use mathlib.Core.Path.{◌≡◌}
use Prim.Native.Nat.{ℕ, ◌*◌, ◌≤◌}
use lib.ListN.{length, take}
use Rattle.base.specs.Find.{sum}
use Rattle.scriptblock.specs.Script.{Objects}
use Rattle.meaning.specs.Reference.{Ref}
use Rattle.meaning.specs.Scan.{Class}
use Rattle.resolve.specs.Rows.{Kept, limits_of, target_size}
use Rattle.resolve.specs.Marks.{MarksKept}
use Rattle.resolve.specs.ResolvingLaws.{Part}
use Rattle.resolve.proofs.rows.resolve_all.Given as goal

abbrev pub invariant-loop-r : goal.invariant-loop-r
invariant-loop-r l =
    MarksKept l.n l.rows l.initial.w l.w × (l.total ≤ 17041700 * l.r)
    × ((s b : List ℕ) (o : Objects) (xs : List Class) (refs : List Ref) → Kept s b o l.n xs refs l.initial.w → length refs ≡ l.rows
    → Part l.m.lookups s b o l.n xs refs l.r l.w × (l.total ≡ sum (target_size (limits_of l.m.lookups l.m.objects) xs o) (take l.r refs)))
