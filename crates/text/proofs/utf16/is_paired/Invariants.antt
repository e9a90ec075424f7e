-- `utf16::is_paired` meets its contract. The loop's invariant: the part is a text exactly where its units from i on are one.
use Prim.Native.Nat.{◌-◌, ◌≤◌}
use mathlib.Core.Path.{◌≡◌}
use mathlib.Core.Bool.{true}
use lib.ListN.{drop}
use Rattle.text.specs.Utf16.{is_well, utf16}
use Rattle.text.specs.Name.{decoded}
use Rattle.text.specs.Units.{units_of}
use Rattle.text.proofs.utf16.is_paired.Given as goal

abbrev pub invariant-loop-i : goal.invariant-loop-i
invariant-loop-i l = (l.i ≤ l.n) × (is_well (decoded true l.bytes) ≡ is_well (utf16 (drop l.i (units_of true l.bytes))))

abbrev pub decreases-loop-i : goal.decreases-loop-i
decreases-loop-i l = l.n - l.i
