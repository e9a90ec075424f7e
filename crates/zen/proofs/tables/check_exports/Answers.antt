-- `zen::tables::check_exports` meets its contract: each export is asked.
use Rattle.std.specs.Bool.{MatchBool}
use Prim.Native.Nat.{ℕ, ◌+◌, ◌*◌, ◌≤◌, ◌<◌}
use mathlib.Core.Bool.{Bool, true, false}
use mathlib.Core.List.{List}
use mathlib.Core.Path.{◌≡◌, refl, sym}
use native.Mathlib.Omega.{arith}
use borrow.Author.Rules.{rules}
use borrow.Author.Tests.{tests}
use Rattle.std.proofs.lemmas.Iterator.{cases_from_all, YieldsList-from_range}
use Rattle.base.specs.ReadingRows.{cells}
use Rattle.batch.specs.Field.{low30}
use Rattle.scriptblock.proofs.Seeking.{all_in_range}
use Rattle.zen.specs.Zen.{export_at, named}
use Rattle.zen.specs.TableLaws.{named-all, named-some}
use Rattle.zen.proofs.tables.check_exports.Goals as goal

module _ (s : List ℕ) (count from n : ℕ) where
  named_is : (r : Bool) → MatchBool r ((k : ℕ) → k < n → low30 s (from + 72 * k + 16) < count) ((k : ℕ) × (k < n) × (count ≤ low30 s (from + 72 * k + 16)))
      → r ≡ named count (cells (export_at s) 72 from n)
  named_is true h = sym (named-all s count from n h)
  named_is false h = sym (named-some s count from n h.0 h.1 h.2)

pub returns : goal.returns
returns c =
    let a = c.args in
    let r = cases_from_all _ _ _ (λ k. low30 a.s.now (a.from + 72 * k + 16) < a.count) (λ k. a.count ≤ low30 a.s.now (a.from + 72 * k + 16)) c.all.ensures.ran
    (YieldsList-from_range 0 a.n a.n refl (omega arith)) (λ x q k. search (rules, tests)) (λ x q k. search (rules, tests)) in
    named_is a.s.now a.count a.from a.n c.all.result (all_in_range a.n c.all.result _ _ r)
