-- `packages::block::Block::row_noted` meets its contract. Assumes nothing.
use mathlib.Core.Path.{refl}
use Rattle.packages.proofs.RowMade.{alone, nested, outer-there, named}
use Rattle.packages.proofs.block.Block.row_noted.Goals as goal

pub name_of_noted-own-requires : goal.name_of_noted-own-requires
name_of_noted-own-requires c = (c.requires.0, c.requires.1, named _ _ c.args.self.now.accepted c.args.i _ c.export-e.ensures c.requires.2)

pub name_of_noted-requires : goal.name_of_noted-requires
name_of_noted-requires c =
    let a = c.args.self.now.accepted in
    let (t, k) = c.in-Some.ensures in
    (c.requires.0, c.requires.1, named _ _ a _ _ (rw k at c.export.ensures) (outer-there _ _ a c.export-e.result _ refl t))

pub returns-in-Some : goal.returns-in-Some
returns-in-Some c =
    let a = c.args.self.now.accepted in
    let (t, k) = c.in-Some.ensures in
    rw (c.name_of_noted-own.ensures.0, c.name_of_noted.ensures.0)
    (nested _ _ a c.args.i c.args.kind _ _ c.export-e.ensures refl _ refl _ _ t (rw k at c.export.ensures) refl)

pub returns-in-None : goal.returns-in-None
returns-in-None c =
    let a = c.args.self.now.accepted in
    rw c.name_of_noted-own.ensures.0 (alone _ _ a c.args.i c.args.kind _ _ c.export-e.ensures refl _ refl c.in-None.ensures)
