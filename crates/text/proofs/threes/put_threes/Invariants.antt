-- `threes::put_threes` meets its contract. The loop's invariant: what is not written yet are the bytes of the units from i on, which are well-formed and
-- end where those from `from` on do, and so do those that are passed by two. The measure is the units left. Assumes nothing.
use mathlib.Core.Path.{◌≡◌}
use mathlib.Core.Bool.{true, false}
use Prim.Native.Nat.{◌+◌, ◌-◌, ◌≤◌}
use lib.ListN.{length, drop}
use Rattle.text.specs.Units.{units_in}
use Rattle.text.specs.Front.{bytes_from, well_from, end_of, three_front, Written}
use Rattle.text.proofs.threes.put_threes.Given as goal

abbrev pub invariant-loop-out : goal.invariant-loop-out
invariant-loop-out l = record {
  within : l.i ≤ length (units_in l.part);
  room : length l.out ≡ length l.initial.out;
  well : well_from (units_in l.part) l.i ≡ true;
  written : Written l.initial.out (bytes_from (units_in l.part) l.from) l.out (bytes_from (units_in l.part) l.i) l.at;
  passed : l.from + three_front (drop l.from (units_in l.part)) ≡ l.i + three_front (drop l.i (units_in l.part));
  ends : end_of false (units_in l.part) l.from ≡ end_of false (units_in l.part) l.i;
}

abbrev pub decreases-loop-out : goal.decreases-loop-out
decreases-loop-out l = length (units_in l.part) - l.i
