-- `scan::script::Script::is_class` meets its contract: three questions of the export; then whether its class's path names a class. Assumes nothing.
use mathlib.Core.Path.{◌≡◌, sym, ◌∙◌}
use mathlib.Core.Bool.{false}
use Prim.Native.Nat.{ℕ}
use Rattle.base.specs.Index.{kind}
use Rattle.base.specs.Kind.{kind_number}
use Rattle.base.specs.declared.index.Kind.{Kind}
use Rattle.base.specs.declared.index.Kind.TheVariants.{Script, Null}
use Rattle.scriptblock.specs.Script.{Objects}
use Rattle.base.proofs.Numbers.{kind-same}
use Rattle.zen.specs.declared.tables.Export.{Export}
use Rattle.meaning.specs.ClassTest.{names_class}
use Rattle.meaning.specs.Path.{path_of}
use Rattle.meaning.specs.Scan.{is_class}
use Rattle.scan.specs.ObjectLaws.{class-hash, class_kind_lem, class-parent, class_path_lem}
use Rattle.scan.proofs.script.Script.is_class.Goals as goal

module _ (limit : ℕ) (e : Export) (h : e.hash ≡ 0 → ⊥) where
  other : (class : Kind) (f : kind_number class ≡ kind e.class) → (class ≡ Script → ⊥) → (o : Objects) → false ≡ is_class limit o e
  other class f n o = sym (class_kind_lem limit o e (λ z. n (kind-same class Script (f ∙ z))))

  path : 1 ≡ kind e.class → (parent : Kind) (g : kind_number parent ≡ kind e.parent) → (parent ≡ Null → ⊥) → (o : Objects)
      → is_class limit o e ≡ names_class (path_of limit o e.class)
  path one parent g some o = class_path_lem limit o e h (sym one) (λ z. some (kind-same parent Null (g ∙ z)))

pub returns-then-e-eq0 : goal.returns-then-e-eq0
returns-then-e-eq0 c = λ o q. sym (class-hash _ o _ c.if-e-eq0.true)

pub returns-in_default : goal.returns-in_default
returns-in_default c = λ o q. other _ _ c.if-e-eq0.false _ c.index_kind.ensures c.in_default.not-Script o

pub returns-in-Null : goal.returns-in-Null
returns-in-Null c = λ o q. sym (class-parent _ o _ (sym c.in-Null.ensures))

pub returns : goal.returns
returns c = λ o q.
    c.names_class.ensures o q ∙ sym (path _ _ c.if-e-eq0.false c.in-Script.ensures _ c.index_kind-2.ensures c.in_default-index_kind.not-Null o)
