-- `wide::put_whole`: units of a script count where they are all of it. Assumes nothing.
use mathlib.Core.Path.{refl, sym, ◌∙◌, ap}
use native.Mathlib.Omega.{arith}
use borrow.Author.Rules.{rules}
use Rattle.base.specs.OutputLaws.{wrote-taken}
use Rattle.text.specs.Utf16.{unit_bytes}
use Rattle.ids.proofs.PutUnits.{wrote-same, wrote-within}
use Rattle.ids.proofs.WideUnits.{window}
use Rattle.ids.proofs.wide.put_whole.Goals as goal

pub returns-then-put_script : goal.returns-then-put_script
returns-then-put_script g c =
    let a = c.args in
    let t = a.text in
    let p = c.put_script.ensures in
    let e = sym (ap (λ x. x.all) p.0) ∙ c.if-put_script.true in (
      omega arith,
      wrote-taken p.1 ∙ ap unit_bytes (window g.met.T.Test.right t.bytes.now t.fits t.well a.from a.n e),
      wrote-within (wrote-same (search rules)) p.1 (omega arith),
    )

pub returns-else-put_script : goal.returns-else-put_script
returns-else-put_script g c = (omega arith, refl, wrote-within (wrote-same (search rules)) c.put_script.ensures.1 (omega arith))
