-- `scan::repeats::has_class` meets its contract. The loop's invariant: none of those passed is. Assumes nothing.
use mathlib.Core.Path.{◌≡◌}
use mathlib.Core.Bool.{false}
use Prim.Native.Nat.{◌≤◌}
use Rattle.base.specs.Reading.{gives, run}
use Rattle.scriptblock.specs.Script.{Objects, script}
use Rattle.packages.specs.Package.{read_in}
use Rattle.scan.specs.Repeats.{has_class}
use Rattle.scan.proofs.repeats.has_class.Given as goal

abbrev pub invariant-loop-j : goal.invariant-loop-j
invariant-loop-j l = (l.j ≤ l.n) × ((o : Objects) → run script 0 l.s.block.bytes.now ≡ gives o → has_class l.s.limit o (read_in l.b.bytes.now).exports l.j l.hash ≡ false)
