-- `entries::look_up` meets its contract. Assumes nothing.
use native.Mathlib.Omega.{arith}
use Rattle.table.specs.EntryLaws.{find-zero}
use Rattle.table.specs.TableLaws.{holds-none, ended-find}
use Rattle.table.proofs.entries.look_up.Goals as goal

pub returns-then-n-eq0 : goal.returns-then-n-eq0
returns-then-n-eq0 c = λ k los his t. find-zero los his _ _ k (holds-none t c.if-n-eq0.true)

pub returns : goal.returns
returns c = λ k los his t. ended-find t c.args.lo c.args.hi c.ranges.lo.fits c.ranges.hi.fits (omega arith) (c.search.ensures k los his t)
