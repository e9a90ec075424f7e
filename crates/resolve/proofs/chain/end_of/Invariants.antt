-- `chain::end_of` meets its contract. The loop's invariant: what is left of the chain leads where the whole does. Assumes nothing.
use mathlib.Core.List.{List}
use mathlib.Core.Path.{◌≡◌}
use Prim.Native.Nat.{ℕ, ◌-◌}
use Rattle.base.specs.OneMore.{one_more}
use Rattle.scriptblock.specs.Script.{Objects}
use Rattle.meaning.specs.Reference.{Ref}
use Rattle.meaning.specs.Scan.{Class}
use Rattle.resolve.specs.ChainLaws.{Onward}
use Rattle.resolve.specs.Rows.{class_number, Keeps, Tables, SomeClasses}
use Rattle.resolve.proofs.chain.end_of.Given as goal

abbrev pub invariant-loop : goal.invariant-loop
invariant-loop l =
    SomeClasses l.n (one_more l.next) l.w
    × ((s b : List ℕ) (o : Objects) (xs : List Class) (r : Ref) → Tables s b o l.n xs l.w → Keeps xs l.fn.kept.lo l.fn.kept.hi r → one_more l.fn.class ≡ class_number xs r
    → Onward l.lookups xs o r l.m.lo l.m.hi (one_more l.next) (l.lookups - l.counter))
