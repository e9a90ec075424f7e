-- `check_imports` meets its contract: each answer is the reading's, question by question.
use Rattle.std.specs.Prelude.{Err, Ok}
use mathlib.Core.Path.{◌≡◌, sym}
use mathlib.Core.List.{List}
use Prim.Native.Nat.{ℕ, ◌+◌, ◌*◌, ◌-◌, ◌≤◌, ◌<◌}
use native.Mathlib.Omega.{arith}
use borrow.Author.Tests.{lt-ltb, le-ltb, eq-eqb, ne_eqb}
use lib.ListN.{length}
use Rattle.base.specs.Reading.{walk}
use Rattle.batch.specs.Batch.{batch}
use Rattle.batch.specs.BatchAnswers.{batched}
use Rattle.batch.specs.FoundBatch.{FoundAt, found_at}
use Rattle.batch.specs.declared.names.Names.{Names}
use Rattle.zen.specs.Zen.{imports}
use Rattle.zen.specs.Answers.{imported}
use Rattle.zen.specs.ImportLaws.{imports-refused, imports-short, imports-is}
use Rattle.zen.proofs.Handed.{handed}
use Rattle.zen.proofs.imports.check_imports.Goals as goal

module _ (s : List ℕ) (at index count : ℕ) where
  refused : {r : ℕ} → Err r ≡ batched (walk batch s at) → Err r ≡ imported (walk (imports index count) s at)
  unfolding imported
  refused q = rw (imports-refused s at index count (sym q))

  module _ (within : at ≤ length s) (n : Names) (q : Ok n ≡ batched (walk batch s at)) where
    -- the batch that was found
    f : FoundAt s at n
    f = found_at s at n within (sym q)

    inside : n.«end» ≤ length s
    inside = f.inside

    short : length s - n.«end» < 4 * n.count → Err 3 ≡ imported (walk (imports index count) s at)
    unfolding imported
    short l = rw (imports-short s at index count n f (omega (arith, f.inside)))

    more : 4 * n.count < length s - n.«end» → Err 22 ≡ imported (walk (imports index count) s at)
    unfolding imported
    more l = rw (imports-is s at index count n f (omega arith), ne_eqb (length s - (n.«end» + 4 * n.count)) 0 (λ z. omega arith))

    module _ (l : 4 * n.count ≤ length s - n.«end») (m : length s - n.«end» ≤ 4 * n.count) where
      out : count ≤ index → Err 10 ≡ imported (walk (imports index count) s at)
      unfolding imported
      out i = rw (imports-is s at index count n f (omega (arith, f.inside)), eq-eqb (length s - (n.«end» + 4 * n.count)) 0 (omega arith), le-ltb index count i)

      found : index < count → Ok n ≡ imported (walk (imports index count) s at)
      unfolding imported
      found i = rw (imports-is s at index count n f (omega (arith, f.inside)), eq-eqb (length s - (n.«end» + 4 * n.count)) 0 (omega arith), lt-ltb index count i)

pub returns-in_err-n : goal.returns-in_err-n
returns-in_err-n c = handed _ _ c.from_residual.ensures.1 (refused _ _ _ _ c.in_err-n.ensures)

pub overflow_sub-left : goal.overflow_sub-left
overflow_sub-left c = search (inside, c.in_ok-n.ensures)

pub overflow_mul-n : goal.overflow_mul-n
overflow_mul-n c = omega (arith, (f _ _ c.args.index c.args.count c.requires _ c.in_ok-n.ensures).few)

pub returns-then-left-n : goal.returns-then-left-n
returns-then-left-n c = search (short, c.in_ok-n.ensures)

pub returns-then-n-left : goal.returns-then-n-left
returns-then-n-left c = search (more, c.in_ok-n.ensures)

pub returns-then-count-index : goal.returns-then-count-index
returns-then-count-index c = search (out, c.in_ok-n.ensures)

pub returns : goal.returns
returns c = search (found, c.in_ok-n.ensures)
