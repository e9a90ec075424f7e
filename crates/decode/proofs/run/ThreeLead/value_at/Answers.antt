-- `run::Three::value_at` meets its contract: the bytes are there and in their ranges, since the text is UTF-8. Assumes nothing.
use mathlib.Core.Path.{◌≡◌}
use native.Mathlib.Omega.{arith}
use Rattle.decode.specs.Run.{three_at}
use Rattle.decode.proofs.RunLaws.{three-range, three-there, three-turn, three-small}
use Rattle.decode.proofs.run.ThreeLead.value_at.Goals as goal

pub bounds-s-at-2 : goal.bounds-s-at-2
bounds-s-at-2 c = omega (arith, three-there c.args.s.now c.args.at c.requires.0 c.requires.1 c.requires.2)

pub bounds-s-at-3 : goal.bounds-s-at-3
bounds-s-at-3 c = omega (arith, three-there c.args.s.now c.args.at c.requires.0 c.requires.1 c.requires.2)

pub three-requires : goal.three-requires
three-requires c = three-range c.args.s.now c.args.at c.requires.0 c.requires.1 c.requires.2

pub overflow_cast-result : goal.overflow_cast-result
unfolding three_at
overflow_cast-result c = omega (arith, c.three.ensures, three-small c.args.s.now c.args.at c.requires.0 c.requires.1 c.requires.2)

pub returns : goal.returns
unfolding three_at
returns c =
    let e : c.three.result ≡ three_at c.args.s.now c.args.at = c.three.ensures in
    (e, rw e (three-turn c.args.s.now c.args.at c.requires.0 c.requires.1 c.requires.2))
