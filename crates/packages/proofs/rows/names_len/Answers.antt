-- `packages::rows::names_len` meets its contract. Assumes nothing.
use Rattle.std.specs.Prelude.{Bool, true, false, Some}
use mathlib.Core.Path.{◌≡◌, ap, sym, ◌∙◌}
use mathlib.Core.List.{List}
use Prim.Native.Nat.{ℕ, ◌+◌, ◌-◌, ◌≤◌}
use borrow.Author.Rules.{rules}
use native.Mathlib.Omega.{arith}
use lib.ListN.{length}
use Rattle.text.specs.Utf8.{utf8}
use Rattle.batch.specs.Holds.{name_at}
use Rattle.packages.specs.Kinds.{is_variable}
use Rattle.packages.specs.Row.{outer_at, names_size, RowHolds}
use Rattle.packages.specs.RowLaws.{variable-some, instance-size, instance-whole}
use Rattle.packages.specs.declared.rows.Candidate.TheVariants.{Variable}
use Rattle.packages.specs.declared.rows.Row.{Row}
use Rattle.packages.proofs.rows.names_len.Goals as goal

module _ (b : List ℕ) (w : Row) (d : RowHolds b w) (n : ℕ) (e : (n ≡ length (utf8 (name_at b w.own.place w.own.number))) × (n ≤ 131089)) (t : Bool)
    (q : t ≡ is_variable w.kind) where
  less : t ≡ true → 13 ≤ n
  less k = omega (arith, instance-size d (variable-some w.kind (sym q ∙ k)), e.0)

  other : t ≡ false → w.kind ≡ Some Variable → ⊥
  other k z = let r : is_variable w.kind ≡ true = ap is_variable z in cc

  module _ (o : ℕ) (f : (o ≡ length (utf8 (outer_at b w))) × (o ≤ 131089)) where
    shorter : t ≡ true → n - 13 + n + o ≡ names_size b w
    unfolding names_size
    shorter k = omega (arith, instance-size d (variable-some w.kind (sym q ∙ k)), e.0, f.0)

    whole : t ≡ false → n + n + o ≡ names_size b w
    unfolding names_size
    whole k = omega (arith, ap (λ (s : List ℕ). length (utf8 s)) (instance-whole d (other k)), e.0, f.0)

pub overflow_sub-result : goal.overflow_sub-result
overflow_sub-result c = search less

pub returns-then-is_variable : goal.returns-then-is_variable
returns-then-is_variable c = (search shorter, search rules)

pub returns : goal.returns
returns c = (search whole, search rules)
