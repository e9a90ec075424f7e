-- `class::is_class` meets its contract: the innermost object's name ends in `Class`, and the path is known. Assumes nothing.
use mathlib.Core.Path.{sym, ◌∙◌}
use Rattle.meaning.specs.ClassTest.{is_known}
use Rattle.objects.specs.Numbers.{path_no}
use Rattle.objects.specs.PathLaws.{of_linked, number-inside, class-none, class_no_lem, and-true, and-false}
use Rattle.objects.proofs.class.is_class.Goals as goal

pub returns-in_default : goal.returns-in_default
returns-in_default c = λ o t. let a = c.args in sym (class-none t a.limit a.index (sym (c.in_default.ensures a.b.now o t.all)))

pub ends_in_class-requires : goal.ends_in_class-requires
ends_in_class-requires c =
    let t = c.requires.holds in
    (c.requires, number-inside t c.args.index (c.in-Some.ensures c.args.b.now c.requires.objects t.all))

pub known-requires : goal.known-requires
known-requires c =
    let t = c.requires.holds in
    (of_linked c.requires, number-inside t c.args.index (c.in-Some.ensures c.args.b.now c.requires.objects t.all))

pub returns-then-ends_in_class : goal.returns-then-ends_in_class
returns-then-ends_in_class c = λ o t.
    let a = c.args in
    let i = c.in-Some.i in
    c.known.ensures a.b.now o t ∙ sym (class_no_lem t a.limit a.index i (sym (c.in-Some.ensures a.b.now o t.all))
    ∙ and-true (is_known (path_no a.limit o i)) (sym (c.ends_in_class.ensures o t) ∙ c.if-ends_in_class.true))

pub returns-else-ends_in_class : goal.returns-else-ends_in_class
returns-else-ends_in_class c = λ o t.
    let a = c.args in
    let i = c.in-Some.i in
    c.if-ends_in_class.false ∙ sym (class_no_lem t a.limit a.index i (sym (c.in-Some.ensures a.b.now o t.all))
    ∙ and-false (is_known (path_no a.limit o i)) (sym (c.ends_in_class.ensures o t) ∙ c.if-ends_in_class.false))
