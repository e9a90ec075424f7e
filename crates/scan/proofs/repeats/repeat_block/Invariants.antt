-- `scan::repeats::repeat_block` meets its contract. The loop's invariant: none of the packages passed has one. Assumes nothing.
use mathlib.Core.Path.{◌≡◌}
use mathlib.Core.Bool.{false}
use Prim.Native.Nat.{◌≤◌}
use Rattle.base.specs.Reading.{gives, run}
use Rattle.scriptblock.specs.Script.{Objects, script}
use Rattle.packages.specs.Walk.{place_of}
use Rattle.scan.specs.Repeats.{below, repeats_in}
use Rattle.scan.proofs.repeats.repeat_block.Given as goal

abbrev pub invariant-loop-i : goal.invariant-loop-i
invariant-loop-i l =
    (l.here ≡ place_of l.p.corpus.now l.p.at l.i) × (l.i ≤ l.p.count) × ((o : Objects) → run script 0 l.s.block.bytes.now ≡ gives o → below l.i (repeats_in l.s.limit o l.p.corpus.now l.p.at) ≡ false)
