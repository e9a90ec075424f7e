-- `counts::count` meets its contract. The loop's invariant: the objects passed are counted. Assumes nothing.
use mathlib.Core.Path.{◌≡◌}
use lib.ListN.{length}
use Rattle.verify.proofs.Counting.{Counted}
use Rattle.verify.proofs.counts.count.Given as goal

abbrev pub invariant-loop-i : goal.invariant-loop-i
invariant-loop-i g l =
    Counted l.s.bytes.now l.s.layout (λ i h. (room : _) × (after : _) × (length room.now ≡ l.limit) × goal.F-post g l.hash i room h after) l.i l.t × (length l.chain ≡ 65)
