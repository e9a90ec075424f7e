-- `plain::put_turns` meets its contract. The invariant: the first bytes were written, sixteen for each turn. Assumes nothing.
use mathlib.Core.Path.{◌≡◌}
use Prim.Native.Nat.{◌*◌}
use lib.ListN.{length, take}
use Rattle.base.specs.Output.{Wrote}
use Rattle.text.proofs.plain.put_turns.Given as goal

abbrev pub invariant-loop-turn : goal.invariant-loop-turn
invariant-loop-turn l = record {
  room : length l.out ≡ length l.initial.out;
  wrote : Wrote l.initial.out (take (16 * l.turn) l.part) l.out (16 * l.turn);
}
