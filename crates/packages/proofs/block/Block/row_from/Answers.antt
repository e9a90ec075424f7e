-- `packages::block::Block::row_from` meets its contract. Assumes nothing.
use Rattle.std.specs.Prelude.{None}
use mathlib.Core.Path.{refl}
use Rattle.packages.proofs.RowMade.{alone, nested, outer-there, named, own-start, above-start}
use Rattle.packages.proofs.block.Block.row_from.Goals as goal

pub place_from-requires : goal.place_from-requires
place_from-requires c =
    let q = c.export-e.ensures in
    (named _ _ c.args.self.now.accepted c.args.i _ q c.requires.0, own-start _ _ c.args.i None _ c.args.own q c.requires.1)

pub place_from-requires-in-Some : goal.place_from-requires-in-Some
place_from-requires-in-Some c =
    let a = c.args.self.now.accepted in
    let (t, k) = c.in-Some.ensures in
    let u = rw k at c.export-u.ensures in
    (named _ _ a _ _ u (outer-there _ _ a c.export-e.result _ refl t), above-start _ _ a c.args.i None _ _ _ c.args.outer c.export-e.ensures refl t u c.requires.2)

pub returns-in-Some : goal.returns-in-Some
returns-in-Some c =
    let a = c.args.self.now.accepted in
    let (t, k) = c.in-Some.ensures in
    nested _ _ a c.args.i _ _ _ c.export-e.ensures c.place_from.ensures _ refl _ _ t (rw k at c.export-u.ensures) c.place_from-in-Some.ensures

pub returns-in-None : goal.returns-in-None
returns-in-None c =
    alone _ _ c.args.self.now.accepted c.args.i _ _ _ c.export-e.ensures c.place_from.ensures _ refl c.in-None.ensures
