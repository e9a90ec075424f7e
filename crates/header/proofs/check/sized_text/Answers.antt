-- `check::sized_text` meets its contract: its tests are those of `text_fits`. Assumes nothing.
use mathlib.Core.Path.{◌∙◌}
use native.Mathlib.Omega.{arith}
use Rattle.header.specs.PartsLaws.{text-short, text-long, text-ill, text-units, text_fits_lem}
use Rattle.header.proofs.check.sized_text.Goals as goal

pub returns-then-left-lt4 : goal.returns-then-left-lt4
returns-then-left-lt4 c = search text-short

pub returns-then-left-n : goal.returns-then-left-n
returns-then-left-n c = search text-long

pub returns-in_err-text : goal.returns-in_err-text
returns-in_err-text c =
    let a = c.args in
    let n = c.be32_usize-n in
    c.from_residual.ensures
    ∙ text-ill a.more a.s.now a.at (omega arith) (omega arith) n.result n.ensures.is (omega arith) c.measure_at.result c.measure_at.ensures
    c.in_err-text.was

pub returns-then-text-gt-LONGEST_NAME : goal.returns-then-text-gt-LONGEST_NAME
returns-then-text-gt-LONGEST_NAME c =
    let a = c.args in
    let n = c.be32_usize-n in
    text-units a.more a.s.now a.at (omega arith) (omega arith) n.result n.ensures.is (omega arith) c.measure_at.result c.measure_at.ensures
    c.in_ok-text.text c.in_ok-text.was (omega arith)

pub returns : goal.returns
returns c =
    let a = c.args in
    let n = c.be32_usize-n in
    text_fits_lem a.more a.s.now a.at (omega arith) (omega arith) n.result n.ensures.is (omega arith) c.measure_at.result c.measure_at.ensures
    c.in_ok-text.text c.in_ok-text.was (omega arith) c.string_size.result c.string_size.ensures
