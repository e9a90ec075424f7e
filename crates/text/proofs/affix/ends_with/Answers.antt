-- `ends_with` meets its contract: the base ends in what its units end in.
use mathlib.Core.Path.{sym, ◌∙◌, ap}
use Prim.Native.Nat.{ℕ, ◌-◌}
use native.Mathlib.Omega.{arith}
use lib.ListN.{length, drop}
use Rattle.text.specs.Affix.{starts_with, ends_with}
use Rattle.text.specs.AffixLaws.{ends-short, base-ends}
use Rattle.text.specs.Units.{units_in}
use Rattle.text.proofs.affix.ends_with.Goals as goal

pub returns-then-n-affix : goal.returns-then-n-affix
returns-then-n-affix c =
    let p = c.args.text.part in
    sym (ends-short _ c.args.affix.now (omega arith)) ∙ base-ends p.wide p.bytes.now p.fits c.args.text.well c.args.affix.now c.requires

pub returns : goal.returns
unfolding ends_with
returns c =
    let p = c.args.text.part in
    let e = c.args.affix.now in
    c.units_match.ensures
    ∙ ap (λ (n : ℕ). starts_with (drop (n - length e) (units_in p)) e) c.count-n.ensures
    ∙ base-ends p.wide p.bytes.now p.fits c.args.text.well e c.requires
