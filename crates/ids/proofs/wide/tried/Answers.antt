-- `wide::tried`: nothing is written, or units with A to Z lowered, which are the text's where all bits are those of ASCII. Assumes nothing.
use mathlib.Core.Path.{ap}
use native.Mathlib.Omega.{arith}
use Rattle.base.specs.Never.{never}
use Rattle.ids.proofs.PutUnits.{wrote-same, wrote-within}
use Rattle.ids.proofs.WideUnits.{ascii-taken}
use borrow.Author.Rules.{rules}
use Rattle.ids.specs.declared.script.Bits.{Bits}
use Rattle.ids.proofs.wide.tried.Goals as goal

pub returns-then-starts_high : goal.returns-then-starts_high
returns-then-starts_high c = (wrote-same (search rules), λ e. never (cc))

pub returns-then-text-lt16 : goal.returns-then-text-lt16
returns-then-text-lt16 c = (wrote-same (search rules), λ e. never (cc))

pub returns : goal.returns
returns c =
    let a = c.args in
    let t = a.text in
    let p = c.put_script.ensures in (
      wrote-within (wrote-same (search rules)) p.1 (omega arith),
      λ e. ascii-taken t.bytes.now t.fits t.well a.from a.n (ap (λ (b : Bits). b.bits) p.0) (c.guessed.ensures e) p.1,
    )
