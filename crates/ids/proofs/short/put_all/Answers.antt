-- `short::put_all`: units of the base, and behind them those of the suffix. Assumes nothing.
use borrow.Author.Rules.{rules}
use Rattle.lower.specs.Lower.{lower}
use Rattle.base.specs.OutputLaws.{wrote-rest, wrote_as}
use Rattle.ids.proofs.ShortUnits.{lowered-map, map-same}
use Rattle.ids.proofs.short.put_all.Goals as goal

pub returns : goal.returns
returns c =
    let n = c.args.name in
    let p = c.put_each.ensures lower (λ b r h e. search rules) in
    let q = c.put_each-2.ensures (λ b. b) (λ b r h e. search rules) in
    wrote_as (wrote-rest p q) (rw (lowered-map n.base.now, map-same n.suffix.now))
