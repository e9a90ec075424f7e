-- `packages::frame::package_end` meets its contract: the two tests are those of `inside`. Assumes nothing.
use mathlib.Core.Path.{ap, ◌∙◌}
use native.Mathlib.Omega.{arith}
use Rattle.base.specs.OneMore.{nonzero}
use Rattle.packages.specs.FramingLaws.{end_short, end_long, end_there}
use Rattle.base.proofs.Nonzero.{some-is}
use Rattle.packages.proofs.frame.package_end.Goals as goal

pub returns-then-left-lt12 : goal.returns-then-left-lt12
returns-then-left-lt12 c = ap nonzero (end_short c.args.c.now c.args.at (omega arith) c.requires)

pub returns-then-left-size : goal.returns-then-left-size
returns-then-left-size c =
    let n = c.be32_usize-size in
    ap nonzero (end_long c.args.c.now c.args.at n.result n.ensures.is c.requires (omega arith) (omega arith))

pub returns : goal.returns
returns c =
    let n = c.be32_usize-size in
    some-is _ (omega arith) ∙ ap nonzero (end_there c.args.c.now c.args.at n.result n.ensures.is c.requires (omega arith) (omega arith))
