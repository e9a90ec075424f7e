-- `starts_with` meets its contract: the base starts with what its units start with.
use mathlib.Core.Path.{sym, ◌∙◌}
use native.Mathlib.Omega.{arith}
use Rattle.text.specs.AffixLaws.{starts-short, base-starts}
use Rattle.text.proofs.affix.starts_with.Goals as goal

pub returns-then-count-affix : goal.returns-then-count-affix
returns-then-count-affix c =
    let p = c.args.text.part in
    sym (starts-short _ c.args.affix.now (omega arith)) ∙ base-starts p.wide p.bytes.now p.fits c.args.text.well c.args.affix.now c.requires

pub returns : goal.returns
returns c =
    let p = c.args.text.part in
    c.units_match.ensures ∙ base-starts p.wide p.bytes.now p.fits c.args.text.well c.args.affix.now c.requires
