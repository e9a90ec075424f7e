-- The code's answers about a batch, as functions of what a reading gives.
use Rattle.std.specs.Prelude.{Err, Ok, Result, ℕ}
use Rattle.batch.specs.declared.names.Names.{Names}
use Rattle.base.specs.Reading.{Got, bad, got}
use Rattle.batch.specs.Batch.{Batch}

unfoldable pub checked : {A : Type 0} → Got A → Result (Unit {0}) ℕ
checked (bad e) = Err e
checked (got a n) = Ok tt

unfoldable pub batched : Got Batch → Result Names ℕ
batched (bad e) = Err e
batched (got b n) = Ok b.place
