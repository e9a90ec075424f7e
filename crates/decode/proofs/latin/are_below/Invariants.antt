-- `latin::are_below` meets its contract. The invariant: the bytes so far are below the limit or not. Assumes nothing.
use Rattle.std.proofs.Common.{◌≡◌, ltb, take}
use Rattle.decode.specs.Latin.{every}
use Rattle.decode.proofs.latin.are_below.Given as goal

abbrev pub invariant-loop-b : goal.invariant-loop-b
invariant-loop-b g l = l.all ≡ every (λ b. ltb b g.row.LIMIT) (take l.b-index l.s)
