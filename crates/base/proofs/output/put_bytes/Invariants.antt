-- `output::put_bytes` meets its contract. The invariant: the first i bytes were written. Assumes nothing.
use mathlib.Core.Path.{◌≡◌}
use lib.ListN.{length, take}
use Rattle.base.specs.Output.{Wrote}
use Rattle.base.proofs.output.put_bytes.Given as goal

abbrev pub invariant-loop-i : goal.invariant-loop-i
invariant-loop-i l = record {
  room : length l.out ≡ length l.initial.out;
  wrote : Wrote l.initial.out (take l.i l.src) l.out l.i;
}
