-- `layout_of` meets its contract: an accepted block is laid out as its fields say.
use Rattle.std.specs.Prelude.{Ok}
use mathlib.Core.Path.{sym, ◌∙◌, ap}
use native.Mathlib.Omega.{arith}
use lib.Seq.{length-take-le}
use Rattle.zen.specs.Layouts.{Laid}
use Rattle.zen.proofs.Layouts.{accepted-laid}
use Rattle.zen.proofs.layout.layout_of.Goals.{Start}
use Rattle.zen.proofs.layout.layout_of.Goals as goal

known : (s : Start) → Laid s.args.b.now s.requires.0
known s = accepted-laid _ _ s.requires.1

pub le32_usize-size-requires : goal.le32_usize-size-requires
le32_usize-size-requires c = omega (arith, (known (goal.at.le32_usize-size-requires c).Start).here)

pub slice_bounds-layout_in-end : goal.slice_bounds-layout_in-end
slice_bounds-layout_in-end c =
    let e = c.le32_usize-size.ensures.is in
    let k = (known (goal.at.slice_bounds-layout_in-end c).Start).within in
    sym (length-take-le c.le32_usize-size.result c.args.b.now (omega (arith, e, k)))

pub layout_in-requires : goal.layout_in-requires
layout_in-requires c = rw c.le32_usize-size.ensures.is (known (goal.at.layout_in-requires c).Start).parts

pub returns : goal.returns
returns c =
    let u = c.le32_usize-size in
    c.requires.1 ∙ ap Ok ((known (goal.at.returns c).Start).is ∙ sym (rw u.ensures.is at c.layout_in.ensures))
