-- `classes::enter_class` meets its contract: the key is added, and the record filled in; or the table has the key. Assumes nothing.
use Rattle.std.specs.Prelude.{Option, Some, None, is_some}
use mathlib.Core.Path.{◌≡◌, refl, sym}
use mathlib.Core.Bool.{true, false, false≢true}
use Prim.Native.Nat.{ℕ, ◌<◌}
use native.Mathlib.Omega.{arith}
use Rattle.base.specs.OneMore.{one_more}
use Rattle.packages.specs.ClassPath.{home-holds}
use Rattle.packages.specs.RowLaws.{class-holds}
use Rattle.resolve.specs.ClassesEntered.{class-keyed, class-entered, class-stands}
use Rattle.resolve.specs.Classes.{class_from}
use Rattle.resolve.proofs.classes.enter_class.Goals as goal

found : (x : Option ℕ) → true ≡ is_some x → 0 < one_more x
found None e = absurd (false≢true (sym e))
found (Some k) e = omega arith

missing : (x : Option ℕ) → false ≡ is_some x → x ≡ None
missing None e = refl
missing (Some k) e = absurd (false≢true e)

pub returns-then-is_some-clause-old : goal.returns-then-is_some-clause-old
returns-then-is_some-clause-old c =
    let a = c.args in
    let g = c.export-e.ensures in
    λ e s xs z q t k. class-stands a.k (class_from s a.at a.i) k t (class-keyed a.i z q g) c.add.ensures.found (found c.add.result c.if-is_some.ensures)

pub class_path_len-len-requires : goal.class_path_len-len-requires
class_path_len-len-requires c =
    let b = c.args.p.now.block in
    (rw c.home-home.ensures (home-holds b.accepted b.fits), rw c.row-row.ensures (class-holds b.accepted b.fits c.args.i c.requires.export.0))

pub returns-clause-new : goal.returns-clause-new
returns-clause-new c =
    let a = c.args in
    let b = a.p.now.block in
    let q = c.requires.export in
    let (n, short) = c.class_path_len-len.ensures in
    λ z s xs x i t l. class-entered b.accepted b.fits a.i q.0 x i c.export-e.ensures q.1
    c.home-home.ensures c.row-row.ensures c.meaning-m.ensures (omega (arith, c.meaning-m.type_inv)) (omega (arith, c.meaning-m.type_inv))
    n short t l (c.add.ensures.added (missing c.add.result c.if-is_some.ensures)) c.record_at.ensures c.describe.ensures
