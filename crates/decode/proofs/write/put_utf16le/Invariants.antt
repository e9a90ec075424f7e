-- `decode::write::put_utf16le` meets its contract. The loop's invariant: what is not written yet is the UTF-16LE of the text from `at`
-- on, which is well-formed. Assumes nothing.
use mathlib.Core.Path.{◌≡◌}
use mathlib.Core.Bool.{true}
use Prim.Native.Nat.{◌-◌, ◌≤◌}
use lib.ListN.{length}
use Rattle.text.specs.Utf16.{is_well, utf16le}
use Rattle.decode.specs.Measure.{text_of}
use Rattle.decode.specs.TurnLaws.{from, text_from}
use Rattle.decode.specs.WriteLaws.{Partly}
use Rattle.decode.proofs.write.put_utf16le.Given as goal

abbrev pub invariant-loop-at : goal.invariant-loop-at
invariant-loop-at l =
    (l.at ≤ length l.s) × (length l.out ≡ length l.initial.out) × (is_well (from l.s l.at) ≡ true)
    × Partly l.initial.out (utf16le (text_of l.s)) l.out (utf16le (text_from l.s l.at)) l.n

abbrev pub decreases-loop-at : goal.decreases-loop-at
decreases-loop-at l = length l.s - l.at
