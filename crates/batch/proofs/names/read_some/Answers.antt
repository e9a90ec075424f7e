-- The length of the strings, the version, then what the body says.
use Rattle.std.specs.Prelude.{Err, Result}
use Rattle.batch.specs.declared.names.Names.{Names}
use mathlib.Core.Path.{◌≡◌, ◌∙◌}
use mathlib.Core.List.{List}
use Prim.Native.Nat.{ℕ, ◌+◌, ◌≤◌, ◌<◌}
use native.Mathlib.Omega.{arith}
use borrow.Author.Tests.{le-leb, lt-leb, eq-eqb, ne_eqb}
use lib.Dec.{leb}
use lib.ListN.{length}
use Rattle.base.specs.Number.{le_at}
use Rattle.base.specs.Reading.{bad, walk}
use Rattle.base.specs.ReadingLaws.{pick-short}
use Rattle.batch.specs.Batch.{some_names, body}
use Rattle.batch.specs.BatchAnswers.{batched}
use Rattle.batch.specs.BatchLaws.{some_is}
use Rattle.batch.proofs.names.read_some.Goals as goal

module _ (s : List ℕ) (at n : ℕ) where
  few : length s < at + 4 + 8 → walk (some_names n) s at ≡ bad 3
  few h = some_is s at n ∙ pick-short (leb (at + 4) (length s)) _ 3 λ a. rw (lt-leb (at + 4 + 8) (length s) h)

  short : length s < at + 4 + 8 → Err 3 ≡ batched (walk (some_names n) s at)
  unfolding batched
  short h = rw (few h)

  module _ (h : at + 4 + 8 ≤ length s) (v : ℕ) (e : v ≡ le_at 8 s (at + 4)) where
    version : (v ≡ 0xC1640000 → ⊥) → Err 4 ≡ batched (walk (some_names n) s at)
    unfolding batched
    version w = rw (some_is s at n, le-leb (at + 4) (length s) (omega arith), le-leb (at + 4 + 8) (length s) h, ← e, ne_eqb v 0xC1640000 w)

    whole : v ≡ 0xC1640000 → (room : ℕ) → room ≡ le_at 4 s at → (x : (Result Names ℕ)) → x ≡ batched (walk (body n room) s (at + 4 + 8))
        → x ≡ batched (walk (some_names n) s at)
    whole w room r x q = rw (some_is s at n, le-leb (at + 4) (length s) (omega arith), le-leb (at + 4 + 8) (length s) h, ← e, eq-eqb v 0xC1640000 w, ← r) q

pub returns-then-end-version : goal.returns-then-end-version
returns-then-end-version c = let a = c.args in short a.s.now a.at a.count (omega arith)

pub returns-then-end-next : goal.returns-then-end-next
returns-then-end-next c = search short

pub returns-then-le64-ne3244556288 : goal.returns-then-le64-ne3244556288
returns-then-le64-ne3244556288 c = search version

pub returns : goal.returns
returns c = search whole
