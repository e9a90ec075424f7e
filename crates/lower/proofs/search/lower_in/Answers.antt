-- `lower_in`: what the binary search finds is what the definition does. Assumes nothing.
use Rattle.std.proofs.Common.{rules, sym, ◌∙◌}
use Rattle.std.proofs.lemmas.List.Sorted.{answers_always}
use Rattle.lower.specs.TableLaws.{firsts-rise}
use Rattle.lower.proofs.LowerLaws.{lower-is}
use Rattle.lower.proofs.Searched.{found, missing}
use Rattle.lower.proofs.search.lower_in.Goals as goal

pub returns-in-Ok : goal.returns-in-Ok
returns-in-Ok c =
    let facts = rw c.table-pairs.ensures at c.in-Ok.ensures in
    let by_key = facts.position (λ pair. pair.0) (answers_always _ _ _ (λ f a r g called. search rules)) in
    rw c.table-pairs.ensures (found _ 0 firsts-rise c.args.c _ facts.bound by_key ∙ sym (lower-is c.args.c))

pub returns-in-Err : goal.returns-in-Err
returns-in-Err c =
    let facts = rw c.table-pairs.ensures at c.in-Err.ensures in
    let by_key = facts.position (λ pair. pair.0) (answers_always _ _ _ (λ f a r g called. search rules)) in
    missing _ 0 firsts-rise c.args.c _ by_key ∙ sym (lower-is c.args.c)
