-- `hash::turns_over` meets its contract. The loop's invariant: the turns over the chunks left give what all turns give. Assumes nothing.
use mathlib.Core.Path.{◌≡◌}
use Prim.Native.Nat.{◌/◌}
use lib.ListN.{length}
use Rattle.city.specs.City.{turns}
use Rattle.hashes.proofs.hash.turns_over.Given as goal

abbrev pub invariant-loop-chunk : goal.invariant-loop-chunk
invariant-loop-chunk l =
    let rest = l.chunk-iterator.rest.now in
    let all = l.initial.chunk-iterator.rest.now in
    (l.chunk-iterator.size ≡ 64) × (turns (length rest / 64) rest l.u ≡ turns (length all / 64) all l.initial.u)
