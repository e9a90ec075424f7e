-- `scan::repeats::has_public` meets its contract. Assumes nothing.
use mathlib.Core.Path.{◌≡◌, sym, ◌∙◌, ap}
use mathlib.Core.Bool.{Bool, false}
use mathlib.Core.List.{List}
use Prim.Native.Nat.{ℕ}
use borrow.Author.Tests.{eq-eqb, ne_eqb}
use Rattle.base.specs.Number.{be_at}
use Rattle.scriptblock.specs.Script.{Objects}
use Rattle.packages.specs.Package.{read_in, PackageIn}
use Rattle.packages.specs.PackageLaws.{export_count_lem}
use Rattle.packages.specs.Walk.{block_at, package_at}
use Rattle.packages.specs.declared.package.Parts.{Parts}
use Rattle.scan.specs.Repeats.{has_class, has_public}
use Rattle.scan.proofs.repeats.has_public.Goals as goal

module _ (limit : ℕ) (o : Objects) (c : List ℕ) (here id hash own : ℕ) (f : own ≡ be_at 8 c here) where
  other : (own ≡ id → ⊥) → false ≡ has_public limit o (package_at c here) id hash
  unfolding has_public
  other n = rw (ne_eqb (be_at 8 c here) id (λ z. n (f ∙ z)))

  same : own ≡ id → (b : List ℕ) → b ≡ block_at c here → (p : Parts) → PackageIn b p → (r : Bool) → r ≡ has_class limit o (read_in b).exports p.count hash
      → r ≡ has_public limit o (package_at c here) id hash
  unfolding has_public
  same e b is p k r h = rw (eq-eqb (be_at 8 c here) id (sym f ∙ e), ← is, ← export_count_lem k) h

pub of-b-requires : goal.of-b-requires
of-b-requires c = rw c.block_at.ensures c.requires.is

pub returns : goal.returns
returns c = λ o q.
    let b = c.of-b.result in
    same _ o _ _ _ _ _ c.id_at.ensures c.if-id_at-id.false _ (ap (λ x. x.now) c.of-b.ensures ∙ c.block_at.ensures) _ b.accepted _
    (c.has_class.ensures o q)

pub returns-then-id_at-id : goal.returns-then-id_at-id
returns-then-id_at-id c = λ o q. other _ o _ _ _ _ _ c.id_at.ensures c.if-id_at-id.true
