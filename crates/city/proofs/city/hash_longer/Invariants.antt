-- `city::hash_longer` computes `longer`. The loop's invariant: the turns over the chunks left give what all turns give. Assumes nothing.
use Rattle.std.proofs.Common.{◌≡◌, ◌/◌, length}
use Rattle.city.specs.City.{turns}
use Rattle.city.proofs.city.hash_longer.Given as goal

abbrev pub invariant-loop-chunk : goal.invariant-loop-chunk
invariant-loop-chunk l =
    let rest = l.chunk-iterator.rest.now in
    let all = l.initial.chunk-iterator.rest.now in
    (l.chunk-iterator.size ≡ 64) × (turns (length rest / 64) rest l.t ≡ turns (length all / 64) all l.initial.t)
