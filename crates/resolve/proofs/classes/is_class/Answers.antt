-- `classes::is_class` meets its contract: three tests, and that of the class's path. Assumes nothing.
use mathlib.Core.Path.{◌≡◌, refl, sym, ◌∙◌}
use mathlib.Core.Bool.{Bool, true, false, not, ◌&&◌}
use borrow.Author.Tests.{eq-eqb, ne_eqb}
use lib.Dec.{eqb}
use Rattle.base.specs.Index.{kind}
use Rattle.base.specs.declared.index.Kind.TheVariants.{Script, Null}
use Rattle.base.proofs.Numbers.{kind-same}
use Rattle.meaning.specs.ClassTest.{names_class}
use Rattle.meaning.specs.Path.{path_of}
use Rattle.meaning.specs.Scan.{is_class}
use Rattle.resolve.proofs.classes.is_class.Goals as goal

-- the tests in the code's order
no_hash : (a b c d : Bool) → c ≡ true → false ≡ (a && not b && not c && d)
no_hash false b c d e = refl
no_hash true true c d e = refl
no_hash true false c d e = rw e

no_class_lem : (a b c d : Bool) → a ≡ false → false ≡ (a && not b && not c && d)
no_class_lem a b c d e = rw e

no_parent : (a b c d : Bool) → b ≡ true → false ≡ (a && not b && not c && d)
no_parent false b c d e = refl
no_parent true b c d e = rw e

by-path : (a b c d : Bool) → a ≡ true → b ≡ false → c ≡ false → d ≡ (a && not b && not c && d)
by-path a b c d e f g = rw (e, f, g)

pub returns-then-e-eq0 : goal.returns-then-e-eq0
unfolding is_class
returns-then-e-eq0 c = λ o t.
    let s = c.args in
    no_hash (eqb (kind s.e.class) 1) (eqb (kind s.e.parent) 3) (eqb s.e.hash 0) (names_class (path_of s.limit o s.e.class))
    (eq-eqb s.e.hash 0 c.if-e-eq0.true)

pub returns-in_default : goal.returns-in_default
unfolding is_class
returns-in_default c = λ o t.
    let s = c.args in
    no_class_lem (eqb (kind s.e.class) 1) (eqb (kind s.e.parent) 3) (eqb s.e.hash 0) (names_class (path_of s.limit o s.e.class))
    (ne_eqb (kind s.e.class) 1 (λ z. c.in_default.not-Script (kind-same _ Script (c.index_kind.ensures ∙ z))))

pub returns-in-Null : goal.returns-in-Null
unfolding is_class
returns-in-Null c = λ o t.
    let s = c.args in
    no_parent (eqb (kind s.e.class) 1) (eqb (kind s.e.parent) 3) (eqb s.e.hash 0) (names_class (path_of s.limit o s.e.class))
    (eq-eqb (kind s.e.parent) 3 (sym c.in-Null.ensures))

pub returns : goal.returns
unfolding is_class
returns c = λ o t.
    let s = c.args in
    c.is_class.ensures o t
    ∙ by-path (eqb (kind s.e.class) 1) (eqb (kind s.e.parent) 3) (eqb s.e.hash 0) (names_class (path_of s.limit o s.e.class))
    (eq-eqb (kind s.e.class) 1 (sym c.in-Script.ensures))
    (ne_eqb (kind s.e.parent) 3 (λ z. c.in_default-index_kind.not-Null (kind-same _ Null (c.index_kind-2.ensures ∙ z))))
    (ne_eqb s.e.hash 0 c.if-e-eq0.false)
