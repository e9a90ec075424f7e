-- `rows::resolve_row` meets its contract. Assumes nothing.
use mathlib.Core.Path.{refl, ◌∙◌, ap}
use Prim.Native.Nat.{◌*◌}
use native.Mathlib.Omega.{arith}
use Rattle.std.proofs.Common.{length-drop}
use Rattle.resolve.specs.Rows.{columns_of, limits_of}
use Rattle.resolve.specs.RowsLaws.{class-inside, object-inside}
use Rattle.resolve.specs.ResolvingLaws.{row-means, row-resolved}
use Rattle.resolve.proofs.rows.resolve_row.Goals as goal

pub target_len-len-requires : goal.target_len-len-requires
target_len-len-requires c =
    let p = c.requires in
    let l = c.target_of-t.ensures p.corpus p.block p.objects p.classes p.ref p.holds.tables (row-means p.holds (rw c.row_at-at.ensures at c.words_at.ensures.0) (rw c.row_at-at.ensures at c.words_at.ensures.1)) in (
    record { corpus = p.corpus; block = p.block; objects = p.objects; classes = p.classes; lookups = c.args.m.lookups; ref = p.ref; tables = p.holds.tables; leads = l }
    )

pub kept-requires : goal.kept-requires
kept-requires c =
    let p = c.requires in
    let l = c.target_of-t.ensures p.corpus p.block p.objects p.classes p.ref p.holds.tables (row-means p.holds (rw c.row_at-at.ensures at c.words_at.ensures.0) (rw c.row_at-at.ensures at c.words_at.ensures.1)) in
    omega (arith, l.class-is, class-inside p.classes p.ref, p.holds.tables.classes.keys.room, length-drop (56 * c.args.n) c.args.w.now)

pub object_of-requires : goal.object_of-requires
object_of-requires c =
    let p = c.requires in
    let l = c.target_of-t.ensures p.corpus p.block p.objects p.classes p.ref p.holds.tables (row-means p.holds (rw c.row_at-at.ensures at c.words_at.ensures.0) (rw c.row_at-at.ensures at c.words_at.ensures.1)) in (
      record { corpus = p.corpus; block = p.block; objects = p.objects; classes = p.classes; holds = p.holds.tables },
      omega (arith, l.object-is, object-inside p.holds.tables c.args.m.lookups p.ref),
    )

pub returns : goal.returns
returns c =
    let a = c.args in
    let e = c.target_len-len.ensures in (
      λ s b o xs ref t.
          let l = c.target_of-t.ensures s b o xs ref t.tables (row-means t (rw c.row_at-at.ensures at c.words_at.ensures.0) (rw c.row_at-at.ensures at c.words_at.ensures.1)) in
          row-resolved t (limits_of a.m.lookups a.m.objects) refl (rw c.row_at-at.ensures at c.keep.ensures) (λ j. (c.type_inv.w j).fits) (c.kept.ensures ∙ l.class-is)
          (c.object_of.ensures s b o xs t.tables ∙ ap (columns_of b o) l.object-is) (e.0 s b o xs a.m.lookups ref t.tables l),
      e.1,
    )
