-- `check::sized_texts` meets its contract. The loop's invariant: the texts from here on, with the size so far, give what all give. Assumes nothing.
use mathlib.Core.Path.{◌≡◌}
use Prim.Native.Nat.{◌-◌, ◌*◌, ◌≤◌}
use lib.ListN.{length}
use Rattle.header.specs.Parts.{sized_texts}
use Rattle.header.proofs.check.sized_texts.Given as goal

abbrev pub invariant-loop : goal.invariant-loop
invariant-loop l =
    (l.next ≤ length l.s) × (l.size ≤ 65534 * l.counter)
    × (sized_texts l.size l.more l.s l.next (l.count - l.counter) ≡ sized_texts 0 l.more l.s l.from l.count)
