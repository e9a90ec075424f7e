-- `run::Two::value_at` meets its contract: the bytes are there and in their ranges, since the text is UTF-8. Assumes nothing.
use mathlib.Core.Path.{◌≡◌}
use native.Mathlib.Omega.{arith}
use Rattle.decode.specs.Run.{two_at}
use Rattle.decode.proofs.RunLaws.{two-range, two-there, two-turn}
use Rattle.decode.proofs.run.TwoLead.value_at.Goals as goal

pub bounds-s-at-2 : goal.bounds-s-at-2
bounds-s-at-2 c = omega (arith, two-there c.args.s.now c.args.at c.requires.0 c.requires.1 c.requires.2)

pub two-requires : goal.two-requires
two-requires c = two-range c.args.s.now c.args.at c.requires.0 c.requires.1 c.requires.2

pub returns : goal.returns
unfolding two_at
returns c =
    let e : c.two.result ≡ two_at c.args.s.now c.args.at = c.two.ensures in
    (e, rw e (two-turn c.args.s.now c.args.at c.requires.0 c.requires.1 c.requires.2))
