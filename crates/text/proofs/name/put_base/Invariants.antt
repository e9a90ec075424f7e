-- `text::name::put_base` meets its contract. The loop's invariant: what of the base is not written yet are the bytes of the units
-- from i on, which are well-formed. The measure is the units left. Assumes nothing.
use mathlib.Core.Path.{◌≡◌}
use mathlib.Core.Bool.{true}
use Prim.Native.Nat.{◌-◌, ◌≤◌}
use lib.ListN.{length}
use Rattle.text.specs.Utf8.{utf8}
use Rattle.text.specs.Name.{base}
use Rattle.text.specs.Units.{units_of}
use Rattle.text.specs.Front.{bytes_from, well_from, Held}
use Rattle.text.proofs.name.put_base.Given as goal

abbrev pub invariant-loop-i : goal.invariant-loop-i
invariant-loop-i l =
    (l.i ≤ length (units_of l.text.part.wide l.text.part.bytes.now)) × (length l.out ≡ length l.initial.out) × (well_from (units_of l.text.part.wide l.text.part.bytes.now) l.i ≡ true)
    × Held l.initial.out (utf8 (base l.text.part.wide l.text.part.bytes.now)) l.out (bytes_from (units_of l.text.part.wide l.text.part.bytes.now) l.i) l.at

abbrev pub decreases-loop-i : goal.decreases-loop-i
decreases-loop-i l = length (units_of l.text.part.wide l.text.part.bytes.now) - l.i
