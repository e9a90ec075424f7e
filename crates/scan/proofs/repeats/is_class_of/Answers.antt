-- `scan::repeats::is_class_of` meets its contract. Assumes nothing.
use mathlib.Core.Path.{◌≡◌, sym, ◌∙◌}
use mathlib.Core.Bool.{false}
use Prim.Native.Nat.{ℕ}
use borrow.Author.Tests.{eq-eqb, ne_eqb}
use Rattle.scriptblock.specs.Script.{Objects}
use Rattle.zen.specs.declared.tables.Export.{Export}
use Rattle.meaning.specs.Scan.{is_class}
use Rattle.scan.specs.Repeats.{is_class_of}
use Rattle.scan.proofs.repeats.is_class_of.Goals as goal

module _ (limit : ℕ) (o : Objects) (hash : ℕ) (e : Export) where
  same : e.hash ≡ hash → is_class_of limit o hash e ≡ is_class limit o e
  unfolding is_class_of
  same h = rw (eq-eqb e.hash hash h)

  other : (e.hash ≡ hash → ⊥) → is_class_of limit o hash e ≡ false
  unfolding is_class_of
  other h = rw (ne_eqb e.hash hash h)

pub returns-then-e-hash : goal.returns-then-e-hash
returns-then-e-hash c = λ o q. c.is_class.ensures o q ∙ sym (same _ o _ _ c.if-e-hash.true)

pub returns-else-e-hash : goal.returns-else-e-hash
returns-else-e-hash c = λ o q. ne_eqb _ _ c.if-e-hash.false ∙ sym (other _ o _ _ c.if-e-hash.false)
