-- `links::link_class` meets its contract. Assumes nothing.
use mathlib.Core.List.{List}
use mathlib.Core.Path.{◌∙◌, ap}
use Prim.Native.Nat.{ℕ, ◌+◌, ◌*◌}
use native.Mathlib.Omega.{arith}
use Rattle.base.specs.OneMore.{one_more}
use Rattle.meaning.specs.Key.{public}
use Rattle.table.specs.Words.{stored}
use Rattle.resolve.specs.ChainLaws.{word_behind}
use Rattle.resolve.specs.LinkLaws.{tables-kept, found-few, linked_already, linked-lost, class-linked, class_now, class-only}
use Rattle.resolve.proofs.links.link_class.Goals as goal

-- no key, or linked already
pub returns-then-m-eq0-clause-linked : goal.returns-then-m-eq0-clause-linked
returns-then-m-eq0-clause-linked c = λ a b o xs t h. linked_already t h (rw c.record_at.ensures) c.words_at-m.ensures.0 (c.words_at-m.ensures.1 ∙ word_behind _ _) c.if-m-eq0.true

pub overflow_add-k : goal.overflow_add-k
overflow_add-k c =
    omega (arith, found-few (public c.words_at-m.result.lo c.words_at-m.result.hi) c.requires.some c.in-Some.ensures)

-- linked
pub returns-in-Some-clause-kept : goal.returns-in-Some-clause-kept
returns-in-Some-clause-kept c =
    let at = 56 * c.args.n + c.record_at.result in
    let few = found-few (public c.words_at-m.result.lo c.words_at-m.result.hi) c.requires.some c.in-Some.ensures in
    let is = c.set64-in-Some.ensures ∙ ap (λ (v : List ℕ). stored 8 v (at + 32) 0) c.set64.ensures in
    λ a b o xs refs t h. class-linked t h (rw c.record_at.ensures) c.words_at-m.ensures.0 (c.words_at-m.ensures.1 ∙ word_behind _ _) (omega arith)
    (c.in-Some.ensures a b o xs t.tables) (omega (arith, few)) is

pub returns-in-Some-clause-linked : goal.returns-in-Some-clause-linked
returns-in-Some-clause-linked c =
    let at = 56 * c.args.n + c.record_at.result in
    let few = found-few (public c.words_at-m.result.lo c.words_at-m.result.hi) c.requires.some c.in-Some.ensures in
    let is = c.set64-in-Some.ensures ∙ ap (λ (v : List ℕ). stored 8 v (at + 32) 0) c.set64.ensures in
    λ a b o xs t h. class_now (tables-kept t) h (rw c.record_at.ensures) c.words_at-m.ensures.0 (c.words_at-m.ensures.1 ∙ word_behind _ _) (omega arith)
    (c.in-Some.ensures a b o xs t) (omega (arith, few)) is

pub returns-in-Some-clause-only : goal.returns-in-Some-clause-only
returns-in-Some-clause-only c =
    let at = 56 * c.args.n + c.record_at.result in
    let few = found-few (public c.words_at-m.result.lo c.words_at-m.result.hi) c.requires.some c.in-Some.ensures in
    let is = c.set64-in-Some.ensures ∙ ap (λ (v : List ℕ). stored 8 v (at + 32) 0) c.set64.ensures in
    let own = c.requires.some in
    class-only (tables-kept own.holds) (omega (arith, c.requires.inside)) (rw c.record_at.ensures) c.words_at-m.ensures.0
    (c.words_at-m.ensures.1 ∙ word_behind _ _) (omega arith) (c.in-Some.ensures own.corpus own.block own.objects own.classes own.holds) (omega (arith, few)) is

-- no class has the key
pub returns-in_default-clause-linked : goal.returns-in_default-clause-linked
returns-in_default-clause-linked c = λ a b o xs t h.
    linked-lost t h (rw c.record_at.ensures) c.words_at-m.ensures.0 (c.words_at-m.ensures.1 ∙ word_behind _ _) (omega arith)
    (c.class_at.ensures a b o xs t) (ap one_more c.in_default.is)
