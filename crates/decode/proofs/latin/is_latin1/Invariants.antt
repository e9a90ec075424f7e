-- `latin::is_latin1` meets its contract: it has a text of low bytes alone. The loop's invariant: the bytes so far are low. Assumes nothing.
use Rattle.std.proofs.Common.{◌≡◌, true, ◌*◌, take}
use Rattle.decode.specs.Latin.{every, low}
use Rattle.decode.proofs.latin.is_latin1.Given as goal

abbrev pub invariant-loop-turn : goal.invariant-loop-turn
invariant-loop-turn l = every low (take (16 * l.turn) l.s) ≡ true
