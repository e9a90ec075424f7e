-- `scan::repeats::is_repeat` meets its contract: a class; its key is that of one before it in its package, or in a package before. Assumes
-- nothing.
use mathlib.Core.Path.{◌≡◌, ◌∙◌}
use mathlib.Core.Bool.{Bool, true, false}
use mathlib.Core.List.{List}
use Prim.Native.Nat.{ℕ}
use lib.ListN.{get_or}
use Rattle.scriptblock.specs.Script.{Objects}
use Rattle.zen.specs.Zen.{no_export}
use Rattle.zen.specs.declared.tables.Export.{Export}
use Rattle.meaning.specs.Scan.{is_class}
use Rattle.scan.specs.Repeats.{has_class, is_before, is_repeat}
use Rattle.scan.proofs.repeats.is_repeat.Goals as goal

module _ (limit : ℕ) (o : Objects) (c : List ℕ) (at i : ℕ) (es : List Export) (id j : ℕ) (e : Export) (q : e ≡ get_or es j no_export) (t : Bool) (f : t ≡ is_class limit o e) where
  other : t ≡ false → false ≡ is_repeat limit o c at i es id j
  unfolding is_repeat
  other z = rw (← q, ← f, z)

  module _ (z : t ≡ true) (u : Bool) (g : u ≡ has_class limit o es j e.hash) where
    own : u ≡ true → true ≡ is_repeat limit o c at i es id j
    unfolding is_repeat
    own y = rw (← q, ← f, z, ← g, y)

    before : u ≡ false → (r : Bool) → r ≡ is_before limit o c at i id e.hash → r ≡ is_repeat limit o c at i es id j
    unfolding is_repeat
    before y r h = rw (← q, ← f, z, ← g, y) h

pub returns-then-has_class : goal.returns-then-has_class
returns-then-has_class c = λ o q. c.if-has_class.true ∙
    own _ o _ _ _ _ _ _ _ c.export-e.ensures _ (c.is_class.ensures o q) c.if-not-is_class.false _
    (c.has_class.ensures o q) c.if-has_class.true

pub returns-else-has_class : goal.returns-else-has_class
returns-else-has_class c = λ o q.
    before _ o _ _ _ _ _ _ _ c.export-e.ensures _ (c.is_class.ensures o q) c.if-not-is_class.false _
    (c.has_class.ensures o q) c.if-has_class.false _ (c.is_before.ensures o q)

pub returns-then-not-is_class : goal.returns-then-not-is_class
returns-then-not-is_class c = λ o q. other _ o _ _ _ _ _ _ _ c.export-e.ensures _ (c.is_class.ensures o q) c.if-not-is_class.true
