-- `rows::pool_row` meets its contract. Assumes nothing.
use mathlib.Core.Path.{sym, ◌∙◌, ap, subst}
use Prim.Native.Nat.{◌+◌, ◌*◌, ◌%◌, ◌≤◌}
use native.Mathlib.Nat.{mod-lt}
use native.Mathlib.Omega.{arith}
use lib.ListN.{take}
use Rattle.base.specs.NumberLaws.{Bytes, le_at-lt}
use Rattle.table.specs.Words.{Kept}
use Rattle.objects.specs.declared.object.Object.{Object}
use Rattle.resolve.specs.Rows.{row_at}
use Rattle.resolve.specs.declared.rows.Led.{Led}
use Rattle.pool.specs.Pool.{Stood}
use Rattle.pool.specs.PoolLaws.{state-next, state_empty, shared, slot_kept, slot_set, stood_still, classed_kept, state-added}
use Rattle.pool.proofs.rows.pool_row.Goals.{After-set32}
use Rattle.pool.proofs.rows.pool_row.Goals as goal

-- the slot was set, which stands before the texts
set : (c : After-set32) → let p = c.args.p.now in let s = p.gap + 4 * (c.slot_key.result % p.slots) in
    Kept s (s + 4) c.args.w.now c.set32.new.w × (s + 4 ≤ p.gap + 4 * p.slots)
set c =
    let g = c.requires.0 in
    let p = c.args.p.now in
    let m = mod-lt c.slot_key.result g.some in
    (slot_kept c.args.w.now (p.gap + 4 * (c.slot_key.result % p.slots)) c.args.r c.set32.ensures (omega (arith, m, g.texts, g.room)), omega (arith, m))

pub returns-then-is_nowhere-clause-is : goal.returns-then-is_nowhere-clause-is
returns-then-is_nowhere-clause-is c = λ v t. let g = c.requires.0 in state_empty t c.keep.ensures g.front (omega (arith, g.texts)) g.room g.inside

pub returns-in-Some-clause-is : goal.returns-in-Some-clause-is
returns-in-Some-clause-is c = λ v t.
    let g = c.requires.0 in
    let q = c.led_at-t.ensures in
    let k = c.in-Some in
    let w = c.args.w.now in
    let bs : Bytes w = λ i. (c.slice_known-1.given i).fits in
    state-next t c.keep-in-Some.ensures g.front (omega (arith, g.texts)) g.room g.inside
    (λ ne. omega (arith, ap (λ (l : Led). l.text) q, le_at-lt 4 w (row_at w k.k + 20) bs))
    (omega (arith, ap (λ (l : Led). l.size) q, le_at-lt 4 w (row_at w k.k + 24) bs))
    (λ ne. shared t c.class_in-class.ensures c.object_in-u.ensures q k.ensures ne)

pub put_texts-requires : goal.put_texts-requires
put_texts-requires c =
    let g = c.requires.0 in
    let l = c.object_in-u in
    let p = c.args.p.now in
    let k = (set (goal.at.put_texts-requires c).After-set32).0 in (
      classed_kept k (omega (arith, g.front)) c.requires.1.classed,
      omega (arith, c.class_in-class.ensures, c.requires.1.class-inside),
      λ ne.
          stood_still p.n c.args.w.now k (omega (arith, g.front))
          (subst (λ (y : Object). Stood p.block.now (take (56 * p.n) c.args.w.now) y) (sym l.ensures)
          (c.requires.1.stood (λ z. ne (ap (λ (y : Object). y.outer) l.ensures ∙ z)))),
      omega (arith, g.front, g.texts),
      omega (arith, g.room, k.size),
    )

pub returns-in_default-put_texts-clause-is : goal.returns-in_default-put_texts-clause-is
returns-in_default-put_texts-clause-is c = λ v t.
    let g = c.requires.0 in
    let k = set (goal.at.returns-in_default-put_texts-clause-is c).After-set32 in
    state_empty (slot_set k.0 t g.front (omega arith) k.1 g.texts g.room g.inside) (rw c.in_default-put_texts.ensures at c.keep-in_default-put_texts.ensures)
    g.front (omega (arith, g.texts)) (omega (arith, k.0.size, g.room)) g.inside

pub returns-clause-is : goal.returns-clause-is
returns-clause-is c = λ v t.
    let g = c.requires.0 in
    let s = (goal.at.returns-clause-is c).After-set32 in
    let k = set s in
    state-added k.0 t c.in-Some-put_texts.ensures c.keep-2.ensures c.class_in-class.ensures c.object_in-u.ensures g.front (omega arith) k.1 g.texts g.room g.inside
