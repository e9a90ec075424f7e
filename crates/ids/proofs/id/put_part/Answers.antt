-- `id::put_part`: wide text, or one-byte text, whose units are its bytes. Assumes nothing.
use mathlib.Core.Bool.{true}
use native.Mathlib.Omega.{arith}
use borrow.Author.Rules.{rules}
use Rattle.base.specs.OutputLaws.{wrote_none}
use Rattle.text.specs.UnitsLaws.{units_of_bound}
use Rattle.ids.proofs.NameUnits.{narrow-is, narrow-count}
use Rattle.ids.proofs.ShortUnits.{wrote-part}
use Rattle.ids.proofs.id.put_part.Goals as goal

pub returns-then-n-eq0 : goal.returns-then-n-eq0
returns-then-n-eq0 c = rw c.if-n-eq0.true (wrote_none _)

pub put_wide-requires : goal.put_wide-requires
put_wide-requires c =
    let p = c.args.text.part in
    let h = rw c.if-text.true at c.requires.0 in
    (omega arith, omega (arith, units_of_bound true p.bytes.now), search rules)

pub overflow_add-from : goal.overflow_add-from
overflow_add-from c = let p = c.args.text.part in omega (arith, units_of_bound p.wide p.bytes.now)

pub slice_bounds-put_narrow-end : goal.slice_bounds-put_narrow-end
slice_bounds-put_narrow-end c = omega (arith, narrow-count c.if-text.false c.args.text.part.bytes.now)

pub returns : goal.returns
returns c =
    let a = c.args in
    let p = a.text.part in
    let l = narrow-count c.if-text.false p.bytes.now in
    rw (narrow-is c.if-text.false p.bytes.now p.fits) (wrote-part p.bytes.now a.from a.n _ (omega arith) (omega arith) c.put_narrow.ensures)
