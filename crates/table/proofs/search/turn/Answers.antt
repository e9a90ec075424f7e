-- `search::turn` meets its contract: a bit by a shift. Assumes nothing.
use mathlib.Core.Path.{sym}
use Rattle.table.specs.TurnLaws.{turn_low, turn_high}
use Rattle.table.proofs.search.turn.Goals as goal

pub returns-then-depth-lt64-clause-is : goal.returns-then-depth-lt64-clause-is
returns-then-depth-lt64-clause-is c = sym (turn_low _ c.args.lo c.args.hi c.if-depth-lt64.true)

pub returns-else-depth-lt64-clause-is : goal.returns-else-depth-lt64-clause-is
returns-else-depth-lt64-clause-is c = sym (turn_high _ c.args.lo c.args.hi c.if-depth-lt64.false)
