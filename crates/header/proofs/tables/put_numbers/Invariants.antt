-- `tables::put_numbers` meets its contract. The loop's invariant: what is not written yet is the numbers from here on. Assumes nothing.
use mathlib.Core.Path.{◌≡◌}
use mathlib.Core.Bool.{true}
use Prim.Native.Nat.{◌-◌}
use Rattle.base.specs.Find.{flat}
use Rattle.decode.specs.WriteLaws.{Partly}
use Rattle.header.specs.Places.{imported_from}
use Rattle.header.specs.Parts.{texts_fit}
use Rattle.header.specs.RegionLaws.{number_bytes}
use Rattle.header.proofs.tables.put_numbers.Given as goal

abbrev pub invariant-loop : goal.invariant-loop
invariant-loop l =
    (texts_fit 4 l.names.s.now l.at (l.names.count - l.counter) ≡ true)
    × Partly l.initial.out (flat number_bytes (imported_from l.names.s.now l.names.from l.names.count)) l.out (flat number_bytes (imported_from l.names.s.now l.at (l.names.count - l.counter))) l.n
