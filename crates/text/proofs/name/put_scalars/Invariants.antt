-- `text::name::put_scalars` meets its contract. The loop's invariant: what is not written yet are the bytes of the units from i on, which are
-- well-formed and end where those from `from` on do. The measure is the units left. Assumes nothing.
use mathlib.Core.Path.{◌≡◌}
use mathlib.Core.Bool.{true, not}
use Prim.Native.Nat.{◌-◌, ◌≤◌}
use lib.Dec.{eqb}
use lib.ListN.{length}
use Rattle.text.specs.Units.{units_in}
use Rattle.text.specs.Front.{bytes_from, well_from, end_of, Written}
use Rattle.text.proofs.name.put_scalars.Given as goal

abbrev pub invariant-loop-i : goal.invariant-loop-i
invariant-loop-i g l = record {
  within : l.i ≤ length (units_in l.part);
  room : length l.out ≡ length l.initial.out;
  well : well_from (units_in l.part) l.i ≡ true;
  written : Written l.initial.out (bytes_from (units_in l.part) l.from) l.out (bytes_from (units_in l.part) l.i) l.at;
  ends : end_of (not (eqb g.row.ALL 0)) (units_in l.part) l.from ≡ end_of (not (eqb g.row.ALL 0)) (units_in l.part) l.i;
}

abbrev pub decreases-loop-i : goal.decreases-loop-i
decreases-loop-i g l = l.n - l.i
