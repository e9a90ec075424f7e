-- `signed::le_size32` meets its contract: what `try_from` answers is the size, or that there is none. Assumes nothing.
use mathlib.Core.Path.{◌∙◌}
use mir.Syntax.{w32}
use mir.Facts.{to_z-of_z}
use native.Mathlib.Omega.{arith}
use Rattle.base.specs.Number.{le_at}
use Rattle.base.specs.NumberLaws.{le_at-lt}
use Rattle.base.specs.SignedLaws.{size-twos}
use Rattle.base.proofs.Signs.{tried-size, twos-small}
use Rattle.base.proofs.signed.le_size32.Goals as goal

pub returns : goal.returns
returns c =
    let z = c.le_i32 in
    let n = le_at 4 c.args.s.now c.args.at in
    let fits = le_at-lt 4 c.args.s.now c.args.at (λ i. (c.type_inv.s i).fits) in
    let is = to_z-of_z {w = w32} {z = z.result} (record { sfits = z.type_inv }) ∙ z.ensures in
    c.ok.ensures.value
    ∙ tried-size c.try_from.result _ (λ m e. twos-small 31 n fits (omega arith) m (rw is at e)) c.try_from.ensures
    ∙ rw is (size-twos 31 n fits)
