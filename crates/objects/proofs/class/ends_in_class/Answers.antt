-- `class::ends_in_class` meets its contract: the columns give the name's number and its place. Assumes nothing.
use mathlib.Core.Path.{refl, sym, ◌∙◌, ap}
use borrow.Author.Tests.{ne_eqb}
use Rattle.meaning.proofs.ClassTest.{name_numbered_lem, name-plain}
use Rattle.objects.specs.Numbers.{entry_no}
use Rattle.objects.specs.Work.{place_of}
use Rattle.objects.specs.PathLaws.{inside-count, place-holds, place_base, place_no_lem, number_no_lem}
use Rattle.objects.specs.declared.object.Object.{Object}
use Rattle.objects.proofs.class.ends_in_class.Goals as goal

pub place_ends_with-requires : goal.place_ends_with-requires
place_ends_with-requires c =
    let a = c.args in
    let t = c.requires.0.holds in
    let o = c.requires.0.objects in
    let e = c.place_of.ensures ∙ ap place_of (c.object_at-u.ensures a.b.now o t) ∙ place_no_lem a.b.now o a.i in
    (rw e (place-holds t a.i (inside-count t a.i c.requires.1) (λ j. (c.type_inv.b j).fits)), refl)

pub returns-then-u-eq0 : goal.returns-then-u-eq0
returns-then-u-eq0 c = λ o t.
    let a = c.args in
    let u = c.object_at-u.ensures a.b.now o t in
    let e = c.place_of.ensures ∙ ap place_of u ∙ place_no_lem a.b.now o a.i in
    let n = ap (λ (u : Object). u.number) u ∙ number_no_lem a.b.now o a.i in
    (rw (e, place_base t a.i (inside-count t a.i c.requires.1)) at c.place_ends_with.ensures) ∙ sym (name-plain o (entry_no o a.i) (sym n ∙ c.if-u-eq0.true))

pub returns-else-u-eq0 : goal.returns-else-u-eq0
returns-else-u-eq0 c = λ o t.
    let a = c.args in
    let e = ap (λ (u : Object). u.number) (c.object_at-u.ensures a.b.now o t) ∙ number_no_lem a.b.now o a.i in
    ne_eqb _ 0 c.if-u-eq0.false ∙ sym (name_numbered_lem o (entry_no o a.i) (λ z. c.if-u-eq0.false (e ∙ z)))
