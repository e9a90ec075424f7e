-- `zen::zen::check_header` meets its contract.
use Rattle.std.specs.Prelude.{Err, Ok, Result}
use Rattle.zen.specs.declared.zen.Layout.{Layout}
use Prim.Native.Nat.{ℕ}
use mathlib.Core.Path.{◌≡◌, sym, ap, ◌∙◌}
use mathlib.Core.List.{List}
use mathlib.Core.Bool.{true, false}
use lib.ListN.{length}
use Rattle.base.specs.Reading.{walk, got}
use Rattle.base.specs.ReadingLaws.{out, ask-yes, ask_no, then-walk, then-bad}
use Rattle.zen.specs.Zen.{summary, ordered, header, content}
use Rattle.zen.specs.Answers.{summed, answer, Order}
use Rattle.zen.proofs.Handed.{handed}
use Rattle.zen.proofs.SummaryLaws.{order_of, summary-got}
use Rattle.zen.specs.AnswersLaws.{summed-told, summed-missed}
use Rattle.zen.specs.declared.summary.Summary.{Summary}
use Rattle.zen.proofs.zen.check_header.Goals as goal

-- by what the summary and the order of its offsets answer
module _ (s : List ℕ) where
  missed : {r : ℕ} → Err r ≡ summed (walk summary s 8) → Err r ≡ answer (out (walk (header (length s)) s 8))
  unfolding header answer
  missed q = ap (λ g. answer (out g)) (sym (then-bad summary _ s 8 (summed-missed _ (sym q))))

  module _ (m : Summary) (q : Ok m ≡ summed (walk summary s 8)) where
    read : walk summary s 8 ≡ got m 52
    read =
        let (k, u) = summed-told _ (sym q) in
        u ∙ ap (got m) (summary-got s u).1

    mixed : false ≡ ordered m (length s) → Err 17 ≡ answer (out (walk (header (length s)) s 8))
    unfolding header answer
    mixed p = ap (λ g. answer (out g)) (sym (then-walk summary _ s 8 read ∙ ask_no 17 _ s 52 (sym p)))

    module _ (p : true ≡ ordered m (length s)) where
      order : Order m (length s)
      order = order_of m (length s) (sym p)

      whole : {r : Result Layout ℕ} → r ≡ answer (out (walk (content (length s) m) s 52)) → r ≡ answer (out (walk (header (length s)) s 8))
      unfolding header
      whole i = i ∙ ap (λ g. answer (out g)) (sym (then-walk summary _ s 8 read ∙ ask-yes 17 _ s 52 (sym p)))

pub returns-in_err-summary : goal.returns-in_err-summary
returns-in_err-summary c = handed _ _ c.from_residual.ensures.1 (missed _ c.in_err-summary.ensures)

pub returns-then-not-in_order : goal.returns-then-not-in_order
returns-then-not-in_order c = mixed _ _ c.in_ok-summary.ensures c.if-not-in_order.ensures

pub check_content-requires : goal.check_content-requires
check_content-requires c = order _ _ c.in_ok-summary.ensures c.if-not-in_order.ensures

pub returns : goal.returns
returns c = whole _ _ c.in_ok-summary.ensures c.if-not-in_order.ensures c.check_content.ensures
