-- `run::is_run` meets its contract. Assumes nothing.
use Rattle.std.proofs.Common.{sym, arith}
use Rattle.decode.proofs.RunLaws.{four_short, four_long}
use Rattle.decode.proofs.run.is_run.Goals as goal

pub returns-then-s-at : goal.returns-then-s-at
returns-then-s-at g c = sym (four_short _ _ c.args.s.now c.args.at (omega arith))

pub returns : goal.returns
returns g c =
    rw (c.leads.ensures, c.leads-2.ensures, c.leads-3.ensures, c.leads-4.ensures, c.SIZE-size.ensures)
    (four_long _ _ c.args.s.now c.args.at c.requires (omega arith))
