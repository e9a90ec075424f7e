-- `scan::check::check_packages` meets its contract. The loop's invariant: those passed are accepted. Assumes nothing.
use mathlib.Core.Path.{◌≡◌}
use Prim.Native.Nat.{◌≤◌}
use Rattle.packages.specs.Walk.{place_of, AllRead}
use Rattle.scan.proofs.check.check_packages.Given as goal

abbrev pub invariant-loop-i : goal.invariant-loop-i
invariant-loop-i l = (l.here ≡ place_of l.p.corpus.now l.p.at l.i) × (l.i ≤ l.p.count) × AllRead l.p.corpus.now l.p.at l.i
