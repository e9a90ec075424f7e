-- `links::link_classes` meets its contract. The loop's invariant: all is still kept as it was, and the first i classes are
-- linked. Assumes nothing.
use mathlib.Core.List.{List}
use mathlib.Core.Path.{◌≡◌}
use Prim.Native.Nat.{ℕ, ◌≤◌}
use lib.ListN.{length}
use Rattle.scriptblock.specs.Script.{Objects}
use Rattle.meaning.specs.Reference.{Ref}
use Rattle.meaning.specs.Scan.{Class}
use Rattle.resolve.specs.Rows.{Tables, Kept, LinkedTo}
use Rattle.resolve.proofs.links.link_classes.Given as goal

abbrev pub invariant-loop-i : goal.invariant-loop-i
invariant-loop-i l =
    (length l.w ≡ length l.initial.w)
    × ((s b : List ℕ) (o : Objects) (xs : List Class) (refs : List Ref) → Kept s b o l.n xs refs l.initial.w → l.classes ≤ length xs → Kept s b o l.n xs refs l.w)
    × ((s b : List ℕ) (o : Objects) (xs : List Class) → Tables s b o l.n xs l.initial.w → l.classes ≤ length xs → LinkedTo l.n xs l.i l.initial.w l.w)
