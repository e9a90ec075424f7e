-- `call::class_verify` meets its contract. Assumes nothing.
use Rattle.verify.specs.StepLaws.{answered-verified}
use Rattle.verify.proofs.call.class_verify.Goals as goal

pub returns-in-Ok : goal.returns-in-Ok
returns-in-Ok c = let (n, o) = answered-verified c.in-Ok.ensures in record { number = n; output = o }

pub returns-in-Err : goal.returns-in-Err
returns-in-Err c = let (n, o) = answered-verified c.in-Err.ensures in record { number = rw c.number.ensures n; output = o }
