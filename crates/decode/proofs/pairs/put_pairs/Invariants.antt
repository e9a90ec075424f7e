-- `pairs::put_pairs` meets its contract. The loop's invariant: what the first k pairs mean is written. Assumes nothing.
use Rattle.std.proofs.Common.{◌≡◌, ◌+◌, ◌-◌, ◌*◌, ◌≤◌, length, take, drop, get_or}
use Rattle.decode.specs.Tails.{Filling, Meant, Counted}
use Rattle.decode.proofs.pairs.put_pairs.Given as goal

abbrev pub invariant-loop-k : goal.invariant-loop-k
invariant-loop-k l =
    (l.k ≤ l.pairs) × (length l.bytes ≡ 32) × (length l.sizes ≡ 32) × Meant l.s l.i 32 l.bytes × Counted l.s l.i 32 l.sizes
    × Filling l.initial.out (get_or l.s (l.i - 1) 0) (drop l.i (take l.to l.s)) l.out (2 * l.k) l.n (get_or l.s (l.i + 2 * l.k - 1) 0)

abbrev pub decreases-loop-k : goal.decreases-loop-k
decreases-loop-k l = l.pairs - l.k
