-- `packages::block::Block::candidate_noted` meets its contract: the two tests in order. Assumes nothing.
use mathlib.Core.Path.{◌≡◌, refl, sym, ◌∙◌}
use mathlib.Core.Bool.{Bool, true, false}
use mathlib.Core.List.{List, []}
use Prim.Native.Nat.{ℕ}
use lib.ListN.{get_or}
use Rattle.text.specs.Affix.{starts_with, ends_with}
use Rattle.batch.specs.Holds.{Holds, text_at}
use Rattle.batch.specs.declared.places.Place.{Place}
use Rattle.zen.specs.declared.tables.Export.{Export}
use Rattle.meaning.specs.Scan.{candidate_kind, gen_variable, default_start}
use Rattle.packages.specs.Package.{read_in, PackageIn}
use Rattle.packages.specs.Row.{export_no, is_local}
use Rattle.packages.specs.RowLaws.{outer-some, outer-none}
use Rattle.packages.specs.declared.package.Parts.{Parts}
use Rattle.packages.proofs.RowMade.{outer-there, named}
use Rattle.packages.proofs.block.Block.candidate_noted.Goals as goal

module _ (b : List ℕ) (p : Parts) (a : PackageIn b p) (i : ℕ) (e : Export) (own : Place) (q : e ≡ export_no b i) (d : Holds b own (get_or (read_in b).names e.index []))
    (t : Bool) (f : t ≡ ends_with (text_at b own) gen_variable) where
  one : t ≡ true → 1 ≡ candidate_kind (read_in b) (export_no b i)
  unfolding candidate_kind
  one h = rw (← q, ← d.text, ← f, h)

  module _ (h : t ≡ false) (l : Bool) (g : l ≡ is_local p e.outer) where
    alone : l ≡ false → 0 ≡ candidate_kind (read_in b) (export_no b i)
    unfolding candidate_kind
    alone k = rw (← q, ← d.text, ← f, h, outer-none a e (sym g ∙ k))

    module _ (k : l ≡ true) (u : Export) (outer : Place) (m : u ≡ export_no b e.outer) (o : Holds b outer (get_or (read_in b).names u.index []))
        (s : Bool) (n : s ≡ starts_with (text_at b outer) default_start) where
      two : s ≡ true → 2 ≡ candidate_kind (read_in b) (export_no b i)
      unfolding candidate_kind
      two z = rw (← q, ← d.text, ← f, h, (outer-some a e (sym g ∙ k)).1, ← m, ← o.text, ← n, z)

      none : s ≡ false → 0 ≡ candidate_kind (read_in b) (export_no b i)
      unfolding candidate_kind
      none z = rw (← q, ← d.text, ← f, h, (outer-some a e (sym g ∙ k)).1, ← m, ← o.text, ← n, z)

pub name_noted-requires : goal.name_noted-requires
name_noted-requires c = (c.requires.0, c.requires.1, named _ _ c.args.self.now.accepted c.args.i _ c.export-e.ensures c.requires.2)

pub returns-then-place_ends_with : goal.returns-then-place_ends_with
returns-then-place_ends_with c =
    one _ _ c.args.self.now.accepted _ _ _ c.export-e.ensures c.name_noted.ensures.1 _ c.place_ends_with.ensures c.if-place_ends_with.true

pub returns-in_err-local : goal.returns-in_err-local
returns-in_err-local c =
    let a = c.args.self.now.accepted in
    let f = c.place_ends_with.ensures in
    rw c.from_residual.ensures (alone _ _ a _ _ _ c.export-e.ensures c.name_noted.ensures.1 _ f c.if-place_ends_with.false _ refl c.in_err-local.ensures)

pub name_noted-requires-2 : goal.name_noted-requires-2
name_noted-requires-2 c =
    let a = c.args.self.now.accepted in
    let (t, k) = c.in_ok-local.ensures in
    (c.requires.0, c.requires.1, named _ _ a _ _ (rw k at c.export-u.ensures) (outer-there _ _ a c.export-e.result _ refl t))

pub returns-then-place_starts_with : goal.returns-then-place_starts_with
returns-then-place_starts_with c =
    let a = c.args.self.now.accepted in
    let f = c.place_ends_with.ensures in
    let (t, k) = c.in_ok-local.ensures in
    let n = c.place_starts_with.ensures in
    two _ _ a _ _ _ c.export-e.ensures c.name_noted.ensures.1 _ f c.if-place_ends_with.false _ refl t
    _ _ (rw k at c.export-u.ensures) c.name_noted-2.ensures.1 _ n c.if-place_starts_with.true

pub returns : goal.returns
returns c =
    let a = c.args.self.now.accepted in
    let f = c.place_ends_with.ensures in
    let (t, k) = c.in_ok-local.ensures in
    let n = c.place_starts_with.ensures in
    none _ _ a _ _ _ c.export-e.ensures c.name_noted.ensures.1 _ f c.if-place_ends_with.false _ refl t
    _ _ (rw k at c.export-u.ensures) c.name_noted-2.ensures.1 _ n c.if-place_starts_with.false
