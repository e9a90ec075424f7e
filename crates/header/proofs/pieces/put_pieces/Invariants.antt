-- `pieces::put_pieces` meets its contract. The loop's invariant: i pieces are written. Assumes nothing.
use Rattle.std.proofs.Common.{List, ℕ}
use Rattle.base.specs.Output.{Wrote}
use Rattle.header.specs.Pieces.{pieces, Puts}
use Rattle.header.proofs.pieces.put_pieces.Given as goal

abbrev pub invariant-loop-i : goal.invariant-loop-i
invariant-loop-i g l = (b : ℕ → List ℕ) → Puts g.F.Fn l.put b l.count → Wrote l.initial.out (pieces b l.i) l.out l.n
