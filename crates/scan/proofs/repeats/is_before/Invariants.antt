-- `scan::repeats::is_before` meets its contract. The loop's invariant: none of the packages passed has one. Assumes nothing.
use mathlib.Core.Path.{◌≡◌}
use mathlib.Core.Bool.{false}
use Prim.Native.Nat.{◌≤◌}
use Rattle.base.specs.Reading.{gives, run}
use Rattle.scriptblock.specs.Script.{Objects, script}
use Rattle.packages.specs.Walk.{place_of}
use Rattle.scan.specs.Repeats.{is_before}
use Rattle.scan.proofs.repeats.is_before.Given as goal

abbrev pub invariant-loop : goal.invariant-loop
invariant-loop l =
    (l.here ≡ place_of l.p.corpus.now l.p.at l.counter) × (l.counter ≤ l.n) × ((o : Objects) → run script 0 l.s.block.bytes.now ≡ gives o → is_before l.s.limit o l.p.corpus.now l.p.at l.counter l.id l.hash ≡ false)
