-- `scan::repeats::repeats_in` meets its contract. The loop's invariant: none of the exports passed is one. Assumes nothing.
use mathlib.Core.Path.{◌≡◌}
use mathlib.Core.Bool.{false}
use Prim.Native.Nat.{◌≤◌}
use Rattle.base.specs.Reading.{gives, run}
use Rattle.scriptblock.specs.Script.{Objects, script}
use Rattle.packages.specs.Package.{read_in}
use Rattle.scan.specs.Repeats.{below, is_repeat}
use Rattle.scan.proofs.repeats.repeats_in.Given as goal

abbrev pub invariant-loop-j : goal.invariant-loop-j
invariant-loop-j l =
    (l.j ≤ l.b.parts.count) × ((o : Objects) → run script 0 l.s.block.bytes.now ≡ gives o → below l.j (is_repeat l.s.limit o l.p.corpus.now l.p.at l.i (read_in l.b.bytes.now).exports l.id) ≡ false)
