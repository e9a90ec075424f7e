-- `call::compare` meets its contract. Assumes nothing.
use Rattle.std.specs.Prelude.{Option}
use mathlib.Core.Path.{◌≡◌}
use Prim.Native.Nat.{ℕ}
use Rattle.base.specs.OneMore.{nonzero}
use Rattle.base.specs.Reading.{gives, run}
use Rattle.scriptblock.specs.Script.{Objects, script}
use Rattle.meaning.specs.Call.{limits}
use Rattle.scan.specs.Repeats.{repeat_block}
use Rattle.walk.specs.OpenLaws.{begun-few}
use Rattle.walk.specs.OpenSteps.{first_in}
use Rattle.verify.proofs.Scanned.{Compared, compared-none, compared-twice}
use Rattle.verify.proofs.call.compare.Goals.{After-packages}
use Rattle.verify.proofs.call.compare.Goals as goal

compared : (c : After-packages) (r : Option ℕ) → let a = c.args in
    ((o : Objects) → run script 0 a.s.now.block.bytes.now ≡ gives o → r ≡ nonzero (repeat_block (first_in limits.objects o a.c.now.bytes.now a.c.now.frame)))
    → Compared a.c.now.bytes.now a.c.now.frame a.c.now.script.now a.s.now.block.layout a.t r
compared c r told =
    let (a, e, l, y) = c.requires in
    record { begun = c.args.c.now.begun; packages = a; accepted = rw e at c.args.s.now.block.accepted; tally = y; told = rw e at told }

pub repeat_block-requires : goal.repeat_block-requires
repeat_block-requires c = rw (c.packages.ensures.0, c.packages.ensures.1, c.packages.ensures.2) (c.requires.0, (begun-few c.args.c.now.begun).0)

pub returns-in-Some : goal.returns-in-Some
returns-in-Some c = rw (c.at.ensures.0, c.at.ensures.1) (compared-twice (compared (goal.at.returns-in-Some c).After-packages _ (rw (c.packages.ensures.0, c.packages.ensures.1, c.packages.ensures.2, c.requires.2) at c.in-Some.ensures)))

pub finish-requires : goal.finish-requires
finish-requires c = compared-none (compared (goal.at.finish-requires c).After-packages _ (rw (c.packages.ensures.0, c.packages.ensures.1, c.packages.ensures.2, c.requires.2) at c.in_default.ensures))
