-- `decode::narrow::look_at` meets its contract. The loop's invariant: what is seen of the first i bytes, and what those from there on hold.
-- Assumes nothing.
use Rattle.std.proofs.Common.{◌≡◌, ◌+◌, ◌-◌, ◌≤◌, take, drop, get_or}
use Rattle.decode.specs.NarrowLaws.{Far}
use Rattle.decode.proofs.narrow.look_at.Given as goal

abbrev pub invariant-loop-i : goal.invariant-loop-i
invariant-loop-i g l =
    (l.k ≡ l.i) × (l.units ≤ l.i)
    × Far (get_or l.s (l.at - 1) 0) (take l.n (drop l.at l.s)) (get_or l.s (l.at + l.i - 1) 0) (drop l.i (take l.n (drop l.at l.s))) l.bad l.high l.units
