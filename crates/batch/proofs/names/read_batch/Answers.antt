-- The count, then what the names behind it say.
use Rattle.std.specs.Prelude.{Err, Ok, Result}
use Rattle.batch.specs.declared.names.Names.{Names}
use mathlib.Core.Path.{◌≡◌}
use mathlib.Core.List.{List}
use Prim.Native.Nat.{ℕ, ◌+◌, ◌≤◌, ◌<◌}
use borrow.Author.Tests.{le-leb, lt-leb, eq-eqb, ne_eqb}
use lib.ListN.{length}
use Rattle.base.specs.Number.{le_at}
use Rattle.base.specs.Reading.{walk}
use Rattle.batch.specs.Batch.{batch, some_names}
use Rattle.batch.specs.BatchAnswers.{batched}
use Rattle.batch.specs.BatchLaws.{batch-is}
use Rattle.batch.proofs.names.read_batch.Goals as goal

module _ (s : List ℕ) (at : ℕ) where
  short : length s < at + 4 → Err 3 ≡ batched (walk batch s at)
  unfolding batched
  short h = rw (batch-is s at, lt-leb (at + 4) (length s) h)

  module _ (h : at + 4 ≤ length s) (n : ℕ) (e : n ≡ le_at 4 s at) where
    none : n ≡ 0 → Ok (record { count = 0; headers = at + 4; strings = at + 4; «end» = at + 4 }) ≡ batched (walk batch s at)
    unfolding batched
    none z = rw (batch-is s at, le-leb (at + 4) (length s) h, ← e, eq-eqb n 0 z)

    some : (n ≡ 0 → ⊥) → (x : (Result Names ℕ)) → x ≡ batched (walk (some_names n) s (at + 4)) → x ≡ batched (walk batch s at)
    some z x q = rw (batch-is s at, le-leb (at + 4) (length s) h, ← e, ne_eqb n 0 z) q

pub returns-then-s-next : goal.returns-then-s-next
returns-then-s-next c = search short

pub returns-then-count-eq0 : goal.returns-then-count-eq0
returns-then-count-eq0 c = search none

pub returns : goal.returns
returns c = search some
