-- `report::call::class_report` meets its contract. Assumes nothing.
use Rattle.report.specs.CallLaws.{answered-outcome}
use Rattle.report.proofs.call.class_report.Goals as goal

pub returns-in-Ok : goal.returns-in-Ok
returns-in-Ok c = let (n, o) = answered-outcome _ c.in-Ok.ensures in record { number = n; report = o }

pub returns-in-Err : goal.returns-in-Err
returns-in-Err c = let (n, o) = answered-outcome _ c.in-Err.ensures in record { number = rw c.number.ensures n; report = o }
