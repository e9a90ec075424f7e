-- `zen::summary::read_summary` meets its contract.
use Rattle.std.specs.Prelude.{Err, Ok}
use Prim.Native.Nat.{ℕ, ◌≤◌, ◌<◌}
use mathlib.Core.Path.{◌≡◌, sym}
use mathlib.Core.List.{List}
use lib.ListN.{length}
use Rattle.base.specs.Reading.{walk, rows}
use Rattle.batch.specs.BatchAnswers.{checked}
use Rattle.batch.specs.BatchAnswersLaws.{checked-passed, checked-failed}
use Rattle.zen.specs.Zen.{offset, summary, summary_at}
use Rattle.zen.specs.Answers.{summed}
use Rattle.zen.proofs.Handed.{handed}
use Rattle.zen.proofs.SummaryLaws.{summary-short, summary-failed, summary-passed}
use Rattle.zen.specs.declared.summary.Summary.{Summary}
use Rattle.zen.proofs.summary.read_summary.Goals as goal

-- by what the offsets answer
module _ (s : List ℕ) where
  short : length s < 24 → Err 3 ≡ summed (walk summary s 8)
  unfolding summed
  short l = rw (summary-short s l)

  module _ (l : 24 ≤ length s) where
    failed : {r : ℕ} → Err r ≡ checked (walk (rows 7 offset) s 24) → Err r ≡ summed (walk summary s 8)
    unfolding summed
    failed q = rw (summary-failed s l (checked-failed _ (sym q)))

    module _ (q : Ok tt ≡ checked (walk (rows 7 offset) s 24)) where
      there : 52 ≤ length s
      there = (summary-passed s l (checked-passed _ (sym q)).2).1

      told : (m : Summary) → m ≡ summary_at s → Ok m ≡ summed (walk summary s 8)
      unfolding summed
      told m h = rw ((summary-passed s l (checked-passed _ (sym q)).2).0, h)

pub returns-then-s-lt24 : goal.returns-then-s-lt24
returns-then-s-lt24 c = search short

pub returns-in_err-check_offsets : goal.returns-in_err-check_offsets
returns-in_err-check_offsets c = handed _ _ c.from_residual.ensures.1 (failed _ c.if-s-lt24.false c.in_err-check_offsets.ensures)

pub summary_in-requires : goal.summary_in-requires
summary_in-requires c = there _ c.if-s-lt24.false c.in_ok-check_offsets.ensures

pub returns : goal.returns
returns c = told _ c.if-s-lt24.false c.in_ok-check_offsets.ensures _ c.summary_in.ensures
