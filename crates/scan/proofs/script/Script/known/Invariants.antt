-- `scan::script::Script::known` meets its contract. The loop's invariant: the path is known where that of the object at hand, of at most as many
-- objects as are left, is. Assumes nothing.
use mathlib.Core.Path.{◌≡◌}
use Prim.Native.Nat.{◌-◌, ◌≤◌}
use Rattle.base.specs.Reading.{gives, run}
use Rattle.scriptblock.specs.Script.{Objects, script}
use Rattle.meaning.specs.ClassTest.{is_known}
use Rattle.meaning.specs.Path.{path_of}
use Rattle.scan.proofs.script.Script.known.Given as goal

abbrev pub invariant-loop : goal.invariant-loop
invariant-loop l =
    (l.counter ≤ l.self.limit) × ((o : Objects) → run script 0 l.self.block.bytes.now ≡ gives o → is_known (path_of l.self.limit o l.index) ≡ is_known (path_of (l.self.limit - l.counter) o l.at))
